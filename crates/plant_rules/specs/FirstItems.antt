-- What the number of an item says.
use Rattle.std.specs.Prelude.{◌≡◌, ℕ, ◌+◌, Bool, true, false, not, List, ◌∷◌, ◌++◌, length, Some}
use Rattle.std.specs.List.{AllByRecursion}
use Rattle.plant_base.specs.{State, AddRecipe, ImportOrders, Merge, RecipeLine, Refusal}
use Rattle.plant_base.specs.declared.commands.Command.TheVariants as body
use Rattle.plant_view.specs.{is_known}
use Rattle.plant_rules.specs.Causes.{is_bad_order, is_bad_part, item_of}

-- the item of this number, counted from 1, fails, and none before it does
pub record IsFirstFailing {X : Type 0} (fails : X → Bool) (items : List X) (number : ℕ) : Type 0 where
  pub before : List X
  pub item : X
  pub behind : List X
  pub parted : items ≡ before ++ item ∷ behind
  pub counted : number ≡ length before + 1
  pub failing : fails item ≡ true
  pub passing : AllByRecursion (λ x. fails x ≡ false) before

abbrev pub OrdersAreFirst : Type 0
OrdersAreFirst = (s : State) (c : ImportOrders) (r : Refusal) (number : ℕ) → item_of s (body.ImportOrders c) r ≡ Some number → IsFirstFailing (is_bad_order s c.orders r) c.orders number

abbrev pub PartsAreFirst : Type 0
PartsAreFirst = (s : State) (c : Merge) (r : Refusal) (number : ℕ) → item_of s (body.Merge c) r ≡ Some number → IsFirstFailing (is_bad_part s c.parts r) c.parts number

abbrev pub LinesAreFirst : Type 0
LinesAreFirst = (s : State) (c : AddRecipe) (r : Refusal) (number : ℕ) → item_of s (body.AddRecipe c) r ≡ Some number → IsFirstFailing (λ (l : RecipeLine). not (is_known s.definitions l)) c.lines number
