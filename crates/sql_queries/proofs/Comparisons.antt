-- A comparison of columns with parameters, and the rows that pass it.
use Rattle.std.proofs.Common.{◌≡◌, refl, sym, ap₂, List, ℕ, zero, suc, ◌-◌, ◌<◌, Bool, [], ◌∷◌, drop, Some, true, false, arith, length, ◌&&◌, not, Less}
use Rattle.std.specs.List.{list_all}
use Rattle.std.proofs.lemmas.Bool.{and_parts, not-true}
use Rattle.sqlite_value.specs.declared.value.Value.{Value}
use Rattle.sqlite_value.specs.declared.value.Value.TheVariants.{Null}
use Rattle.sqlite_value.specs.declared.keys.Collation.TheVariants.{Binary}
use Rattle.sqlite_value.specs.Order.{Row, column, value_cmp}
use Rattle.sqlite_sql.specs.declared.ops.BinaryOp.TheVariants.{Compare}
use Rattle.sqlite_sql.specs.declared.ops.CompareOp.{CompareOp}
use Rattle.sqlite_sql.specs.declared.ops.CompareOp.TheVariants.{Eq}
use Rattle.sqlite_sql.specs.Ops.{binary, is_true, is_null, from_truth, test}
use Rattle.sqlite_sql.specs.Term.{Term, col, op2, holds}
use Rattle.sqlite_schema.specs.declared.schema.Table.{Table}
use Rattle.sqlite_resolve.specs.Lowering.{nothing, chosen, alone, first_found}
use Rattle.sqlite_resolve.specs.Scope.{declared}
use Rattle.sql_tables.specs.{TableDef, table_of, columns_of}
use Rattle.sql_tables.proofs.RowConflicts.{padded_column}
use Rattle.sql_queries.specs.{has_values, column_at, is_named, is_plain}
use Rattle.sql_tables.proofs.WhereGiven.{Entry, test_of}
use Rattle.sql_queries.proofs.ShownRows.{passes_all}
use Rattle.sql_queries.proofs.ColumnEntries.{entries, named, binary as is_by_bytes}

true_is : (b : Bool) → is_true (from_truth (Some b)) ≡ b
true_is true = refl
true_is false = refl

-- a comparison in SQL that a lesser value fails, where the second value is no NULL
compared_is : (op : CompareOp) → test op Less ≡ false → (a b : Value) → is_null b ≡ false → is_true (binary (Compare op Binary) a b) ≡ test op (value_cmp a b)
unfolding value_cmp binary
compared_is op least Null Null h = absurd (cc)
compared_is op least Null _ h = sym least
compared_is op least _ b h = rw (h, true_is) refl

abbrev pub tests_of : Table → ℕ → List Entry → List Term
tests_of table n [] = []
tests_of table n (e ∷ es) = test_of table e n ∷ tests_of table (suc n) es

-- after its rowid a row's columns are as in those without it
past_rowid : (table_def : TableDef) (row : Row) (column_index : ℕ) → 0 < column_index → column (Null ∷ columns_of table_def row) column_index ≡ column row column_index
past_rowid table_def row zero h = absurd (omega arith)
past_rowid table_def [] (suc k) h = sym (padded_column (length table_def.columns) [] k)
past_rowid table_def (v ∷ row) (suc k) h = sym (padded_column (length table_def.columns) row k)

by_bytes : (table_def : TableDef) (tree column_index : ℕ) → is_plain table_def column_index ≡ true → chosen (declared (table_of table_def tree) (column_index - 1) (column_at table_def column_index)) nothing ≡ Binary
unfolding chosen alone first_found
by_bytes table_def tree column_index h = is_by_bytes _ (and_parts _ _ (and_parts _ _ h).1).1

-- one comparison of a column with a parameter
pub compares : (op : CompareOp) → test op Less ≡ false → (table_def : TableDef) (tree column_index n : ℕ) (params row : Row) (value : Value) → is_named table_def column_index ≡ true → is_plain table_def column_index ≡ true → is_null value ≡ false → column params n ≡ value
    → holds (params ∷ row ∷ []) (op2 (Compare op (chosen (declared (table_of table_def tree) (column_index - 1) (column_at table_def column_index)) nothing)) (col 1 (suc (column_index - 1))) (col 0 n)) ≡ test op (value_cmp (column (Null ∷ columns_of table_def row) column_index) value)
compares op least table_def tree column_index n params row value known plain some is =
    let cursor = (named table_def column_index known).cursor in
    let back : suc (column_index - 1) ≡ column_index = omega arith in
    rw (by_bytes table_def tree column_index plain, back, is, past_rowid table_def row column_index cursor) (compared_is op least (column row column_index) value some)

pub next_param : (n : ℕ) (params : Row) (v : Value) (vs : Row) → drop n params ≡ v ∷ vs → (column params n ≡ v) × (drop (suc n) params ≡ vs)
next_param zero [] v vs h = absurd (cc)
next_param zero (x ∷ xs) v vs h = let same : x ≡ v = cc in let rest : xs ≡ vs = cc in (same, rest)
next_param (suc n) [] v vs h = absurd (cc)
next_param (suc n) (x ∷ xs) v vs h = next_param n xs v vs h

-- all comparisons
pub pass_all : (table_def : TableDef) (tree n : ℕ) (column_indexes : List ℕ) (params values row : Row) → list_all (λ column_index. is_named table_def column_index && is_plain table_def column_index) column_indexes ≡ true
    → length values ≡ length column_indexes → list_all (λ v. not (is_null v)) values ≡ true → drop n params ≡ values
    → passes_all params (tests_of (table_of table_def tree) n (entries table_def column_indexes)) row ≡ has_values column_indexes values (columns_of table_def row)
pass_all table_def tree n [] params values row known len some from = refl
pass_all table_def tree n (p ∷ ps) params [] row known len some from = absurd (omega arith)
pass_all table_def tree n (p ∷ ps) params (v ∷ vs) row known len some from =
    let parts = and_parts _ _ known in
    let this = and_parts _ _ parts.0 in
    let real = and_parts _ _ some in
    let at = next_param n params v vs from in
    ap₂ (λ a b. a && b) (compares Eq refl table_def tree p n params row v this.0 this.1 (not-true _ real.0) at.0)
    (pass_all table_def tree (suc n) ps params vs row parts.1 (omega (arith, len)) real.1 at.1)
