-- The rows that book movements bring to a sublot, and take from it, what the movements do.
use Rattle.std.proofs.Common.{◌≡◌, ◌∙◌, ℕ, ◌+◌, Bool, true, false, cond, List, [], ◌∷◌, map, filter, Option, refl, sym, ap, arith, sum_by}
use Rattle.std.proofs.lemmas.List.Sums.{sum_by-cons}
use Rattle.plant_base.specs.{Movement, MovementKind}
use Rattle.plant_base.specs.declared.rows.MovementKind.TheVariants as kind
use Rattle.plant_stock.specs.{goes_to, comes_from, is_sublot_key, entered, left}
use Rattle.plant_stock.specs.Stock as flows
use Rattle.plant_view.proofs.ListLemmas.{sum_map}
use Rattle.plant_tables_columns.specs.{booked_of, code_of, BookedRow}
use Rattle.plant_check_rules.specs.{entered_by, left_by, entries, exits, total_booked}

-- the columns of a row say where its movement goes, and where it comes from
ends_booked : (m : Movement) → (entered_by (code_of m.kind) (booked_of m) ≡ goes_to m.kind m.lot m.sub) × (left_by (code_of m.kind) (booked_of m) ≡ comes_from m.kind m.lot m.sub)
ends_booked m = by m.kind refl
  where
    by : (k : MovementKind) → m.kind ≡ k → (entered_by (code_of m.kind) (booked_of m) ≡ goes_to m.kind m.lot m.sub) × (left_by (code_of m.kind) (booked_of m) ≡ comes_from m.kind m.lot m.sub)
    by kind.Received e = rw e (refl, refl)
    by (kind.Consumed batch) e = rw e (refl, refl)
    by (kind.Produced batch) e = rw e (refl, refl)
    by kind.Scrapped e = rw e (refl, refl)
    by (kind.Divided to) e = rw e (refl, refl)
    by (kind.Split to) e = rw e (refl, refl)
    by (kind.Merged to) e = rw e (refl, refl)

-- the rows that pass, of rows that were made
pub filter_mapped : {X Y : Type 0} (test : Y → Bool) (f : X → Y) (xs : List X) → filter test (map f xs) ≡ map f (filter (λ x. test (f x)) xs)
filter_mapped test f [] = refl
filter_mapped test f (x ∷ xs) = elim (test (f x)) as (λ b. cond b (f x ∷ filter test (map f xs)) (filter test (map f xs)) ≡ map f (cond b (x ∷ filter (λ y. test (f y)) xs) (filter (λ y. test (f y)) xs))) [
  | true ↦ ap (λ ys. f x ∷ ys) (filter_mapped test f xs)
  | false ↦ filter_mapped test f xs
]

-- a sum over those that pass
sum_left : {X : Type 0} (test : X → Bool) (value : X → ℕ) (xs : List X) → sum_by value (filter test xs) ≡ sum_by (λ x. cond (test x) (value x) 0) xs
sum_left test value [] = refl
sum_left {X} test value (x ∷ xs) =
    let more = sum_left test value xs in
    elim (test x) as (λ b. sum_by value (cond b (x ∷ filter test xs) (filter test xs)) ≡ cond b (value x) 0 + sum_by (λ (y : X). cond (test y) (value y) 0) xs) [
      | true ↦ omega (arith, sum_by-cons value x (filter test xs), more)
      | false ↦ omega (arith, more)
    ] ∙ sym (sum_by-cons (λ (y : X). cond (test y) (value y) 0) x xs)

-- what the rows of the movements of one end amount to
amount_at : (end_of : Movement → Option (List ℕ × ℕ)) (ms : List Movement) (lot : List ℕ) (number : ℕ)
    → total_booked (map booked_of (filter (λ m. is_sublot_key (end_of m) lot number) ms)) ≡ sum_by (λ m. cond (is_sublot_key (end_of m) lot number) m.amount 0) ms
amount_at end_of ms lot number =
    let own = λ (m : Movement). is_sublot_key (end_of m) lot number in
    sum_map (λ (r : BookedRow). r.amount) booked_of (filter own ms) ∙ sum_left own (λ (m : Movement). m.amount) ms

pub amount_entered : (ms : List Movement) (lot : List ℕ) (number : ℕ) → total_booked (map booked_of (flows.entries ms lot number)) ≡ entered ms lot number
unfolding entered
amount_entered = amount_at (λ m. goes_to m.kind m.lot m.sub)

pub amount_left : (ms : List Movement) (lot : List ℕ) (number : ℕ) → total_booked (map booked_of (filter (λ m. is_sublot_key (comes_from m.kind m.lot m.sub) lot number) ms)) ≡ left ms lot number
unfolding left
amount_left = amount_at (λ m. comes_from m.kind m.lot m.sub)

-- one end of movements, as their rows say it
module _ (reported_by : BookedRow → Option (List ℕ × ℕ)) (end_of : Movement → Option (List ℕ × ℕ)) (alike : (m : Movement) → reported_by (booked_of m) ≡ end_of m) (ms : List Movement) (lot : List ℕ) (number : ℕ) where
  rows_at : filter (λ r. is_sublot_key (reported_by r) lot number) (map booked_of ms) ≡ map booked_of (filter (λ m. is_sublot_key (end_of m) lot number) ms)
  rows_at = filter_mapped (λ (r : BookedRow). is_sublot_key (reported_by r) lot number) booked_of ms ∙ (λ i. map booked_of (filter (λ (m : Movement). is_sublot_key (alike m i) lot number) ms))

  total_at : total_booked (filter (λ r. is_sublot_key (reported_by r) lot number) (map booked_of ms)) ≡ sum_by (λ m. cond (is_sublot_key (end_of m) lot number) m.amount 0) ms
  total_at = ap total_booked rows_at ∙ amount_at end_of ms lot number

-- the rows of what entered a sublot
pub entries_booked : (ms : List Movement) (lot : List ℕ) (number : ℕ) → entries (map booked_of ms) lot number ≡ map booked_of (flows.entries ms lot number)
entries_booked = rows_at (λ r. entered_by r.kind_code r) (λ m. goes_to m.kind m.lot m.sub) (λ m. (ends_booked m).0)

pub total_entered : (ms : List Movement) (lot : List ℕ) (number : ℕ) → total_booked (entries (map booked_of ms) lot number) ≡ entered ms lot number
unfolding entered
total_entered = total_at (λ r. entered_by r.kind_code r) (λ m. goes_to m.kind m.lot m.sub) (λ m. (ends_booked m).0)

pub total_left : (ms : List Movement) (lot : List ℕ) (number : ℕ) → total_booked (exits (map booked_of ms) lot number) ≡ left ms lot number
unfolding left
total_left = total_at (λ r. left_by r.kind_code r) (λ m. comes_from m.kind m.lot m.sub) (λ m. (ends_booked m).1)
