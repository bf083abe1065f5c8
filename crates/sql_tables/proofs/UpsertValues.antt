-- The one row that the terms of an upsert make of its parameters.
use Rattle.std.proofs.Common.{◌≡◌, refl, ap, ap₂, ◌∙◌, ℕ, suc, ◌+◌, ◌/◌, ◌<◌, List, [], ◌∷◌, ◌++◌, length, take, true, arith, append_assoc, map, sym, length-append, take_all}
use Rattle.std.specs.List.{range_with_len}
use Rattle.sqlite_trees.specs.Tree.{rowid}
use Rattle.sqlite.specs.Rows.{shown}
use Rattle.sql_tables.specs.{table_of, TableDef, fits_columns, terms_of, parameters_from}
use Rattle.std.proofs.lemmas.List.{length_push}
use Rattle.std.proofs.Math.Nat.{div_self}
use Rattle.std.proofs.lemmas.Bool.{and_parts}
use Rattle.sqlite.specs.declared.types.Value.{Value}
use Rattle.sqlite.specs.declared.types.Value.TheVariants.{Null}
use Rattle.sqlite.specs.Order.{Row, column}
use Rattle.sqlite.specs.Term.{Term, col}
use Rattle.sqlite_sql.specs.Term.{Env, eval_all}
use Rattle.sqlite.specs.Effect.{value_rows}
use Rattle.sqlite_schema.specs.declared.schema.Column.{Column}

parameters_length : (n : ℕ) (cs : List Column) → length (parameters_from n cs) ≡ length cs
parameters_length n [] = refl
parameters_length n (c ∷ cs) = ap suc (parameters_length (n + 1) cs)

column_after : (prefix : Row) (v : Value) (more : Row) → column (prefix ++ v ∷ more) (length prefix) ≡ v
column_after [] v more = refl
column_after (x ∷ prefix) v more = column_after prefix v more

pub parameters_are : (prefix params : Row) (cs : List Column) (others : Env) → fits_columns cs params ≡ true → eval_all (parameters_from (length prefix) cs) ((prefix ++ params) ∷ others) ≡ params
parameters_are prefix [] [] others fit = refl
parameters_are prefix (v ∷ vs) [] others fit = absurd cc
parameters_are prefix [] (c ∷ cs) others fit = absurd cc
parameters_are prefix (v ∷ vs) (c ∷ cs) others fit =
    let more = parameters_are (prefix ++ v ∷ []) vs cs others (and_parts _ _ fit).1 in
    let joined : prefix ++ v ∷ [] ++ vs ≡ prefix ++ v ∷ vs = append_assoc prefix (v ∷ []) vs in
    ap₂ (λ x xs. x ∷ xs) (column_after prefix v vs) (rw (length_push prefix v, joined) at more)

one_row : (params : Row) (terms : List Term) (width : ℕ) → length terms ≡ width → 0 < width → value_rows params width (length terms / width) terms ≡ eval_all terms (params ∷ []) ∷ []
one_row params terms width is some =
    let one : length terms / width ≡ 1 = ap (λ n. n / width) is ∙ div_self some in
    let whole : take width terms ≡ terms = take_all width terms (omega arith) in
    rw (one, whole) refl

pub values_given : (table_def : TableDef) (params : Row) → fits_columns table_def.columns params ≡ true → value_rows params (length table_def.columns + 1) (length (terms_of table_def) / (length table_def.columns + 1)) (terms_of table_def) ≡ (Null ∷ params) ∷ []
values_given table_def params fit =
    one_row params (terms_of table_def) (length table_def.columns + 1) (ap suc (parameters_length 0 table_def.columns) ∙ omega arith) (omega arith)
    ∙ ap (λ row. (Null ∷ row) ∷ []) (parameters_are [] params table_def.columns [] fit)

-- ---- a row that is given after the parameters, and what comes before it

pub fits_length : (cs : List Column) (vs : Row) → fits_columns cs vs ≡ true → length vs ≡ length cs
fits_length [] [] fit = refl
fits_length [] (v ∷ vs) fit = absurd cc
fits_length (c ∷ cs) [] fit = absurd cc
fits_length (c ∷ cs) (v ∷ vs) fit = ap suc (fits_length cs vs (and_parts _ _ fit).1)

-- the columns of a row, after its rowid
columns_are : (id : Value) (prefix values : Row) → map (λ at. column (id ∷ prefix ++ values) (at + 1)) (range_with_len (length prefix) (length values)) ≡ values
columns_are id prefix [] = refl
columns_are id prefix (v ∷ values) =
    let more = columns_are id (prefix ++ v ∷ []) values in
    let joined : prefix ++ v ∷ [] ++ values ≡ prefix ++ v ∷ values = append_assoc prefix (v ∷ []) values in
    let next : length prefix + 1 ≡ suc (length prefix) = omega arith in
    ap₂ (λ x xs. x ∷ xs) (rw next (column_after prefix v values)) (rw (length_push prefix v, joined) at more)

pub shown_is : (table_def : TableDef) (tree : ℕ) (id : Value) (params : Row) → fits_columns table_def.columns params ≡ true → shown (table_of table_def tree) (id ∷ params) ≡ id ∷ params
shown_is table_def tree id params fit = ap (λ row. id ∷ row) (rw (sym (fits_length table_def.columns params fit)) (columns_are id [] params))

-- What DO UPDATE shows of a row, where the row that it meets and the new one are given after the parameters.
pub updated_row : (table_def : TableDef) (params row : Row) (old new : Value) → fits_columns table_def.columns params ≡ true
    → eval_all (col 1 0 ∷ col 1 0 ∷ parameters_from (length table_def.columns + 2) table_def.columns) ((params ++ old ∷ new ∷ params) ∷ row ∷ []) ≡ rowid row ∷ rowid row ∷ params
updated_row table_def params row old new fit =
    let prefix = params ++ old ∷ new ∷ [] in
    let joined : prefix ++ params ≡ params ++ old ∷ new ∷ params = append_assoc params (old ∷ new ∷ []) params in
    let long : length prefix ≡ length table_def.columns + 2 = omega (arith, fits_length table_def.columns params fit, length-append params (old ∷ new ∷ [])) in
    ap (λ values. rowid row ∷ rowid row ∷ values) (rw (long, joined) at (parameters_are prefix params table_def.columns (row ∷ []) fit))

-- the rowid of the row that it meets, after the parameters
pub given_rowid : (table_def : TableDef) (params rest : Row) (old : Value) → fits_columns table_def.columns params ≡ true → column (params ++ old ∷ rest) (length table_def.columns) ≡ old
given_rowid table_def params rest old fit = rw (sym (fits_length table_def.columns params fit)) (column_after params old rest)
