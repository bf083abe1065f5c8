-- A table has one list of rows, but for their order.
use Rattle.std.proofs.Common.{◌≡◌, ap, subst, List, ℕ, map, IsPermutation}
use Rattle.std.proofs.lemmas.List.Sorted.{IsPermutation-sym, IsPermutation-trans}
use Rattle.sqlite.specs.Effect.{Database}
use Rattle.sqlite.specs.Order.{Row}
use Rattle.sqlite.specs.Schema.{Schema}
use Rattle.sqlite.specs.Table.{Table}
use Rattle.sql_tables.specs.{TableDef, table_of, columns_of, IsDeclared}
use Rattle.sql_queries.specs.{Lists}

-- a table that is declared twice over has one tree
pub one_tree : (schema : Schema) (table_def : TableDef) (at tree at' tree' : ℕ) → IsDeclared schema table_def at tree → IsDeclared schema table_def at' tree' → tree ≡ tree'
one_tree schema table_def at tree at' tree' p q =
    let named = p.named in
    let named' = q.named in
    let column_index : at ≡ at' = cc in
    let is = rw column_index at p.listed in
    let is' = q.listed in
    let tables : table_of table_def tree ≡ table_of table_def tree' = cc in
    ap (λ (t : Table). t.tree) tables

pub lists_same : (db : Database) (table_def : TableDef) (xs ys : List Row) → Lists db table_def xs → Lists db table_def ys → IsPermutation xs ys
lists_same db table_def xs ys p q =
    let same = one_tree db.schema table_def p.at p.tree q.at q.tree p.declared q.declared in
    let other : IsPermutation xs (map (columns_of table_def) (db.trees q.tree)) = subst (λ t. IsPermutation xs (map (columns_of table_def) (db.trees t))) same p.same in
    IsPermutation-trans xs _ ys other (IsPermutation-sym ys _ q.same)
