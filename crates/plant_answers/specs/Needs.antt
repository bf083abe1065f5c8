-- What an order needs, and what there is of it.
use Rattle.std.specs.Prelude.{ℕ, ◌-◌, List, [], Option, Some, None, filter_map}
use Rattle.plant_base.specs.{State, recipe_at, Job, Recipe, RecipeLine}
use Rattle.plant_base.specs.declared.refusal.Refusal.TheVariants.{UnknownOrder}
use Rattle.plant_base.specs.declared.rows.RecipeLine.TheVariants.{In, Out, Parameter, Phase}
use Rattle.plant_recipe.specs.{scaled_of}
use Rattle.plant_answers_genealogy.specs.{in_64_bits}
use Rattle.plant_answers_pages.specs.{recipe_answer}
use Rattle.plant_answers.specs.Stock.{all_in_stock, total_in}
use Rattle.plant_answers.specs.declared.stocks.Part.TheVariants as part
use Rattle.plant_questions.specs.{Answer, Need, RecipeLineAnswer, StandingLot}
use Rattle.plant_questions.specs.declared.question.Answer.TheVariants as A

-- of a definition so much is asked, and so much may be used
abbrev pub need : List ℕ → Option (List ℕ) → ℕ → ℕ → Need
need def unit asked usable = record { def = def; unit = unit; asked = asked; usable = usable; short = asked - usable }

-- of a line of a recipe with this base, for an order of this size: an input is needed
abbrev pub need_in : List StandingLot → ℕ → ℕ → Option (List ℕ) → RecipeLine → Option Need
need_in lots size base unit (In def amount) = Some (need def unit (in_64_bits (scaled_of amount size base)) (total_in lots part.Usable def))
need_in lots size base unit (Out def amount) = None
need_in lots size base unit (Parameter name value) = None
need_in lots size base unit (Phase unit_procedure operation phase) = None

abbrev pub need_of : List StandingLot → ℕ → ℕ → RecipeLineAnswer → Option Need
need_of lots size base l = need_in lots size base l.unit l.line

-- by the version of the recipe that the order names
abbrev pub needs_by : State → ℕ → Option Recipe → List Need
needs_by s size None = []
needs_by s size (Some r) = filter_map (need_of (all_in_stock s) size r.header.base) (recipe_answer s r).lines

abbrev pub needs_of : State → Job → List Need
needs_of s j = needs_by s j.order.size (recipe_at s j.order.recipe j.order.version)

abbrev pub answer_needs : State → Option Job → Answer
answer_needs s None = A.Unknown UnknownOrder
answer_needs s (Some j) = A.Needs (needs_of s j)
