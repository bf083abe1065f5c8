-- A row of table movement whose columns are those of its kind is the row that books its movement.
use Rattle.std.proofs.Common.{◌≡◌, ◌∙◌, ℕ, true, nat_le, List, [], ◌∷◌, map, Option, Some, None, is_some, refl, sym, ap, subst, filter_map, leb-true}
use Rattle.std.specs.List.{AllByRecursion, cons_option}
use Rattle.std.proofs.lemmas.Bool.{false≢true}
use Rattle.plant_base.specs.{is_id, greatest_sublot, Movement, MovementKind}
use Rattle.plant_base.specs.declared.rows.MovementKind.TheVariants as kind
use Rattle.plant_invariant.specs.{HasMovementValues, HasKindValues}
use Rattle.plant_view.specs.{batch_by}
use Rattle.plant_tables_columns.specs.{movement_from, other_lot, other_sublot, booked_of, BookedRow}
use Rattle.plant_tables_columns.proofs.KindLaws.{ValidOrNone}
use Rattle.plant_tables_columns.proofs.MovementColumns.{movement_back}
use Rattle.plant_tables_columns.proofs.TableLaws.{HasBookedColumns}

-- the rows are those that book the movements
pub all_booked : (rows : List BookedRow) → AllByRecursion (λ r. is_some (movement_from r) ≡ true) rows → rows ≡ map booked_of (filter_map movement_from rows)
all_booked [] all = refl
all_booked (r ∷ rows) all = go (movement_from r) refl all.0 (all_booked rows all.1)
  where
    go : (o : Option Movement) → movement_from r ≡ o → is_some o ≡ true → rows ≡ map booked_of (filter_map movement_from rows) → r ∷ rows ≡ map booked_of (cons_option (movement_from r) (filter_map movement_from rows))
    go None e is more = absurd (false≢true is)
    go (Some m) e is more = (λ i. movement_back r m e i ∷ more i) ∙ ap (λ o. map booked_of (cons_option o (filter_map movement_from rows))) (sym e)

-- ---- the values of a movement are those of its row

kind_values : (k : MovementKind) (lot : List ℕ) → ValidOrNone (λ id. is_id id ≡ true) (other_lot k lot) → ValidOrNone (λ n. nat_le n greatest_sublot ≡ true) (other_sublot k) → ValidOrNone (λ id. is_id id ≡ true) (batch_by k) → HasKindValues k
kind_values kind.Received lot a b c = tt
kind_values (kind.Consumed batch) lot a b c = c
kind_values (kind.Produced batch) lot a b c = c
kind_values kind.Scrapped lot a b c = tt
kind_values (kind.Divided to) lot a b c = leb-true to greatest_sublot b
kind_values (kind.Split to) lot a b c = a
kind_values (kind.Merged to) lot a b c = a

pub movement_values : (r : BookedRow) (m : Movement) → movement_from r ≡ Some m → HasBookedColumns r → HasMovementValues m
movement_values r m h valid =
    let v : HasBookedColumns (booked_of m) = subst HasBookedColumns (movement_back r m h) valid in
    record { kind = kind_values m.kind m.lot v.lot2 v.sub2 v.batch; lot = v.lot; sub = leb-true m.sub greatest_sublot v.sub; amount = v.amount; at = v.at; by = v.by; note = v.note }
