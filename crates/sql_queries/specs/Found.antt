-- Rows that have given values.
use Rattle.std.specs.Prelude.{◌≡◌, ℕ, Bool, true, false, not, ◌&&◌, List, [], ◌∷◌, length}
use Rattle.std.specs.List.{list_all}
use Rattle.std.specs.Ordering.{is_eq}
use Rattle.sqlite_value.specs.declared.value.Value.TheVariants.{Null}
use Rattle.sqlite_value.specs.Order.{Row, column, value_cmp}
use Rattle.sqlite_sql.specs.Ops.{is_null}

-- the row has these values in the columns with these indexes, the first column being 1
abbrev pub has_values : List ℕ → Row → Row → Bool
has_values [] values row = true
has_values (column_index ∷ column_indexes) [] row = false
has_values (column_index ∷ column_indexes) (value ∷ values) row = is_eq (value_cmp (column (Null ∷ row) column_index) value) && has_values column_indexes values row

-- a value for each index, and no NULL
abbrev pub AreGiven : List ℕ → Row → Type 0
AreGiven column_indexes values = (length values ≡ length column_indexes) × (list_all (λ v. not (is_null v)) values ≡ true)
