pub mod RecipeLines
pub mod TableIsCases
pub mod EventFold
