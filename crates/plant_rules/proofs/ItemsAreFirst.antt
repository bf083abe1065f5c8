-- The item that is reported is the first that fails.
use Rattle.std.proofs.Common.{◌≡◌, ℕ, ◌+◌, Bool, true, false, cond, List, [], ◌∷◌, ◌++◌, length, Some, None, refl, ap, arith, not, if◌then◌else◌}
use Rattle.std.specs.List.{AllByRecursion, position_from}
use Rattle.plant_base.specs.{State, AddRecipe, ImportOrders, Merge, RecipeLine, Refusal}
use Rattle.plant_base.specs.declared.commands.Command.TheVariants as body
use Rattle.plant_view.specs.{is_known}
use Rattle.plant_rules.specs.{first_failing, is_bad_order, is_bad_part, is_for_a_line, item_of, IsFirstFailing}

-- the same where the list is counted from k
record IsFirstFrom {X : Type 0} (k : ℕ) (fails : X → Bool) (items : List X) (number : ℕ) : Type 0 where
  before : List X
  item : X
  behind : List X
  parted : items ≡ before ++ item ∷ behind
  counted : number ≡ length before + k
  failing : fails item ≡ true
  passing : AllByRecursion (λ x. fails x ≡ false) before

first_from : {X : Type 0} (fails : X → Bool) (k : ℕ) (xs : List X) (number : ℕ) → position_from fails k xs ≡ Some number → IsFirstFrom k fails xs number
first_from fails k [] number e = absurd cc
first_from {X} fails k (x ∷ xs) number e = elim (fails x) as (λ b. fails x ≡ b → cond b (Some k) (position_from fails (k + 1) xs) ≡ Some number → IsFirstFrom k fails (x ∷ xs) number) [
  | true ↦ λ is f.
      let same_number : k ≡ number = cc in
      record { before = []; item = x; behind = xs; parted = refl; counted = omega arith; failing = is; passing = tt }
  | false ↦ λ is f.
      let later = first_from fails (k + 1) xs number f in
      record {
        before = x ∷ later.before;
        item = later.item;
        behind = later.behind;
        parted = ap (λ ys. x ∷ ys) later.parted;
        counted = omega arith;
        failing = later.failing;
        passing = (is, later.passing);
      }
] refl e

first_told : {X : Type 0} (fails : X → Bool) (xs : List X) (number : ℕ) → first_failing fails xs ≡ Some number → IsFirstFailing fails xs number
first_told fails xs number e =
    let it = first_from fails 1 xs number e in
    record { before = it.before; item = it.item; behind = it.behind; parted = it.parted; counted = it.counted; failing = it.failing; passing = it.passing }

pub orders_are_first : (s : State) (c : ImportOrders) (r : Refusal) (number : ℕ) → item_of s (body.ImportOrders c) r ≡ Some number → IsFirstFailing (is_bad_order s c.orders r) c.orders number
orders_are_first s c r number e = first_told (is_bad_order s c.orders r) c.orders number e

pub parts_are_first : (s : State) (c : Merge) (r : Refusal) (number : ℕ) → item_of s (body.Merge c) r ≡ Some number → IsFirstFailing (is_bad_part s c.parts r) c.parts number
parts_are_first s c r number e = first_told (is_bad_part s c.parts r) c.parts number e

pub lines_are_first : (s : State) (c : AddRecipe) (r : Refusal) (number : ℕ) → item_of s (body.AddRecipe c) r ≡ Some number → IsFirstFailing (λ (l : RecipeLine). not (is_known s.definitions l)) c.lines number
lines_are_first s c r number e =
    let unknown = λ (l : RecipeLine). not (is_known s.definitions l) in
    elim (is_for_a_line s c r) as (λ b. (if b then first_failing unknown c.lines else None) ≡ Some number → IsFirstFailing unknown c.lines number) [
      | true ↦ λ f. first_told unknown c.lines number f
      | false ↦ λ f. absurd cc
    ] e
