-- Rows are ordered by the values of a key.
use Rattle.std.proofs.Common.{refl, ℕ, List, [], ◌∷◌}
use Rattle.std.specs.Cmp.{IsTotalOrder}
use Rattle.std.proofs.lemmas.Cmp.{then_total, on_total, nat_list_cmp_total, int_cmp_total}
use Rattle.sqlite.specs.declared.types.Value.TheVariants.{Null}
use Rattle.sqlite.specs.Order.{Row, column}
use Rattle.sql_queries.specs.{number_of, text_of, value_order, key_order}

pub value_total : IsTotalOrder value_order
value_total = then_total (on_total number_of int_cmp_total) (on_total text_of nat_list_cmp_total)

pub key_total : (column_indexes : List ℕ) → IsTotalOrder (key_order column_indexes)
key_total [] = record { antisymm = λ a b. refl; trans = λ a b c less more. less; congr = λ a b c same. refl }
key_total (column_index ∷ column_indexes) = then_total (on_total (λ (row : Row). column (Null ∷ row) column_index) value_total) (key_total column_indexes)
