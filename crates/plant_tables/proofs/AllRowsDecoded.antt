-- All rows of a table: as they are stored, and as they were read.
use Rattle.std.proofs.Common.{◌≡◌, refl, sym, ap, ◌∙◌, subst, List, [], ◌∷◌, map, Option, Some, IsPermutation}
use Rattle.std.specs.Bool.{⊤}
use Rattle.std.specs.List.{AllByRecursion}
use Rattle.std.specs.List.Sorted.{IsStrictlySortedBy}
use Rattle.std.proofs.lemmas.List.Sorted.{IsPermutation-sym, IsPermutation-trans}
use Rattle.sqlite.specs.Effect.{Database}
use Rattle.sqlite.specs.Order.{Row}
use Rattle.sql_tables.specs.{TableDef, columns_of, HasStoredRows}
use Rattle.sql_queries.specs.{Lists, key_order, comes_before, first_of}
use Rattle.sql_queries.proofs.ValueOrder.{key_total}
use Rattle.sql_queries.proofs.RowsUpToOrder.{one_tree}
use Rattle.plant_tables.specs.{Loads}
use Rattle.plant_tables_columns.specs.{all_from}
use Rattle.plant_tables_columns.proofs.OptionalValues.{bound, some_same}
use Rattle.plant_tables.proofs.SortedRowsAreUnique.{same_sorted, strictly_sorted}

pub every : {R : Type 0} (rs : List R) → AllByRecursion (λ _. ⊤) rs
every [] = tt
every (r ∷ rs) = (tt, every rs)

pub map_same : {R : Type 0} (rs : List R) → map (λ r. r) rs ≡ rs
map_same [] = refl
map_same (r ∷ rs) = ap (λ l. r ∷ l) (map_same rs)

-- ---- rows that were read have their columns

module _ {R : Type 0} (row_from : Row → Option R) (written : R → Row) (P : R → Type 0) (back : (row : Row) (r : R) → row_from row ≡ Some r → P r → row ≡ written r) where
  pub all_back : (rows : List Row) (rs : List R) → all_from row_from rows ≡ Some rs → AllByRecursion P rs → rows ≡ map written rs
  all_back [] rs h all = ap (map written) (some_same [] rs h)
  all_back (x ∷ xs) rs h all =
      let p1 = bound (row_from x) _ rs h in
      let p2 = bound (all_from row_from xs) _ rs p1.2 in
      let same : p1.0 ∷ p2.0 ≡ rs = some_same _ _ p2.2 in
      let each : AllByRecursion P (p1.0 ∷ p2.0) = subst (AllByRecursion P) (sym same) all in
      (λ i. back x p1.0 p1.1 each.0 i ∷ all_back xs p2.0 p2.1 each.1 i) ∙ ap (map written) same

-- ---- a row's own columns are read as the row

module _ {R T : Type 0} (row_from : Row → Option T) (written : R → Row) (made : R → T) (P : R → Type 0) (again : (r : R) → P r → row_from (written r) ≡ Some (made r)) where
  pub all_again : (rs : List R) → AllByRecursion P rs → all_from row_from (map written rs) ≡ Some (map made rs)
  all_again [] all = refl
  all_again (r ∷ rs) all = rw (again r all.0, all_again rs all.1) refl

-- ---- the rows of a table that were loaded are those that it has

same_rows : (db : Database) (table_def : TableDef) (loaded rows : List Row) → Lists db table_def loaded → HasStoredRows db table_def rows → IsPermutation loaded rows
same_rows db table_def loaded rows a b =
    let there : IsPermutation loaded (map (columns_of table_def) (db.trees b.tree)) = subst (λ tree. IsPermutation loaded (map (columns_of table_def) (db.trees tree))) (one_tree db.schema table_def a.at a.tree b.at b.tree a.declared b.declared) a.same in
    IsPermutation-trans loaded (map (columns_of table_def) (db.trees b.tree)) rows there (IsPermutation-sym rows (map (columns_of table_def) (db.trees b.tree)) b.same)

-- in the same order
pub loaded_rows : (db : Database) (table_def : TableDef) (loaded rows : List Row) → Loads db table_def loaded → HasStoredRows db table_def rows → IsStrictlySortedBy (key_order (first_of table_def.keys)) rows → loaded ≡ rows
loaded_rows db table_def loaded rows loads has_rows sorted =
    let order = key_order (first_of table_def.keys) in
    let total = key_total (first_of table_def.keys) in
    let rising : IsStrictlySortedBy order loaded = subst (IsStrictlySortedBy order) (map_same loaded) (strictly_sorted (λ row. row) (comes_before table_def) order total (λ a b. refl) loaded loads.rising) in
    same_sorted order total loaded rows rising sorted (same_rows db table_def loaded rows loads.rows has_rows)
