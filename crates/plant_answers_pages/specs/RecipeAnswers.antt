-- What is known of a definition, and of a version of a master recipe.
use Rattle.std.specs.Prelude.{ℕ, List, Option, Some, None, find, map, option_map}
use Rattle.plant_base.specs.{State, master_lines_of, same, Definition, MasterLine, Recipe, RecipeLine}
use Rattle.plant_base.specs.declared.refusal.Refusal.TheVariants.{UnknownDefinition, UnknownRecipe}
use Rattle.plant_base.specs.declared.rows.RecipeLine.TheVariants.{In, Out, Parameter, Phase}
use Rattle.plant_questions.specs.{Answer, RecipeAnswer, RecipeLineAnswer}
use Rattle.plant_questions.specs.declared.question.Answer.TheVariants as A

-- the definition that a line of a recipe names, if it is an input or an output
abbrev pub material_of : RecipeLine → Option (List ℕ)
material_of (In def amount) = Some def
material_of (Out def amount) = Some def
material_of (Parameter name value) = None
material_of (Phase unit_procedure operation phase) = None

-- the unit of a definition that is named and is there
abbrev pub unit_among : List Definition → Option (List ℕ) → Option (List ℕ)
unit_among definitions None = None
unit_among definitions (Some def) = option_map (λ d. d.unit) (find (λ d. same d.id def) definitions)

abbrev pub answer_definition : Option Definition → Answer
answer_definition None = A.Unknown UnknownDefinition
answer_definition (Some d) = A.Definition d

-- a line with the unit of the definition that it names
abbrev pub recipe_line : State → MasterLine → RecipeLineAnswer
recipe_line s l = record { line = l.line; unit = unit_among s.definitions (material_of l.line) }

-- the version with the unit of its product and its lines, by number
abbrev pub recipe_answer : State → Recipe → RecipeAnswer
recipe_answer s r = record {
  recipe = r;
  unit = unit_among s.definitions (Some r.header.product);
  lines = map (recipe_line s) (master_lines_of s r.header.recipe r.header.version);
}

abbrev pub answer_recipe : State → Option Recipe → Answer
answer_recipe s None = A.Unknown UnknownRecipe
answer_recipe s (Some r) = A.Recipe (recipe_answer s r)
