pub mod BatchIds
pub mod BegunIds
pub mod EachIdOnce
pub mod FactsInTurn
pub mod RecipesInTurn
