-- The first of rows that were judged.
use Rattle.std.proofs.Common.{◌≡◌, List, [], ◌∷◌, Option, Some, IfSome, slice_get, subst}
use Rattle.sqlite.specs.Order.{Row}
use Rattle.plant_tables_columns.specs.{all_from}
use Rattle.plant_tables_columns.proofs.OptionalValues.{bound, some_same}
use Rattle.plant_keyed.specs.{IsDecoded}

pub first_decoded : {R : Type 0} (row_from : Row → Option R) (stored : List Row) (rows : List R) → all_from row_from stored ≡ Some rows → IfSome (slice_get rows 0) (IsDecoded row_from)
first_decoded {R} row_from [] rows h = subst (λ (l : List R). IfSome (slice_get l 0) (IsDecoded row_from)) (some_same [] rows h) tt
first_decoded {R} row_from (x ∷ xs) rows h =
    let first = bound (row_from x) _ rows h in
    let more = bound (all_from row_from xs) _ rows first.2 in
    subst (λ (l : List R). IfSome (slice_get l 0) (IsDecoded row_from)) (some_same (first.0 ∷ more.0) rows more.2) (x, first.1)
