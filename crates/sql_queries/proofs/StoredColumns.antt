-- A stored row as it is shown: its columns, those that it lacks being NULL.
use Rattle.std.proofs.Common.{◌≡◌, refl, ap, ap₂, ◌∙◌, List, ℕ, zero, suc, ◌+◌, ◌≤◌, Bool, true, [], ◌∷◌, map, drop, length, None, arith, inl, inr, filter}
use Rattle.std.proofs.lemmas.Bool.{and_parts, cases_Bool}
use Rattle.std.specs.List.{AllByRecursion, range_with_len}
use Rattle.sqlite_value.specs.declared.value.Value.{Value}
use Rattle.sqlite_value.specs.declared.value.Value.TheVariants.{Null}
use Rattle.sqlite_value.specs.Order.{Row, column}
use Rattle.sqlite_schema.specs.declared.schema.Column.{Column}
use Rattle.sqlite_schema.specs.Rules.{passes, are_typed, has_computed}
use Rattle.sqlite_schema.specs.declared.schema.Constraint.TheVariants.{Datatype}
use Rattle.sqlite_schema.specs.declared.schema.Schema.{Schema}
use Rattle.sqlite_schema.specs.declared.schema.Table.{Table}
use Rattle.sqlite_trees.specs.Tree.{Trees}
use Rattle.sql_tables.specs.{padded}
use Rattle.sql_queries.proofs.ShownRows.{at_places}

no_more : (at : ℕ) (cs : List Column) (vs : Row) → are_typed None at cs vs ≡ true → length vs ≤ length cs
no_more at [] [] h = omega arith
no_more at [] (v ∷ vs) h = absurd (cc)
no_more at (c ∷ cs) [] h = omega arith
no_more at (c ∷ cs) (v ∷ vs) h = let more = no_more (at + 1) cs vs (and_parts _ _ h).1 in omega arith

-- the columns from the second on are those of the row without its first
shifted : (v : Value) (row : Row) (n from : ℕ) → map (column (v ∷ row)) (range_with_len (suc from) n) ≡ map (column row) (range_with_len from n)
shifted v row zero from = refl
shifted v row (suc n) from =
    let next : suc from + 1 ≡ suc (from + 1) = omega arith in
    ap (λ vs. column row from ∷ vs) (ap (λ k. map (column (v ∷ row)) (range_with_len k n)) next ∙ shifted v row n (from + 1))

nothing_there : (n from : ℕ) → map (column []) (range_with_len from n) ≡ padded n []
nothing_there zero from = refl
nothing_there (suc n) from = ap (λ vs. Null ∷ vs) (nothing_there n (from + 1))

-- at least as many columns as a row has are the row, padded
columns_padded : (n : ℕ) (row : Row) → length row ≤ n → map (column row) (range_with_len 0 n) ≡ padded n row
columns_padded n [] few = nothing_there n 0
columns_padded zero (v ∷ row) few = absurd (omega (arith, few))
columns_padded (suc n) (v ∷ row) few = ap (λ vs. v ∷ vs) (shifted v row n 0 ∙ columns_padded n row (omega (arith, few)))

shown_row : (cs : List Column) (row : Row) → are_typed None 0 cs (drop 1 row) ≡ true → at_places (range_with_len 1 (length cs)) row ≡ padded (length cs) (drop 1 row)
shown_row cs [] typed = nothing_there (length cs) 1
shown_row cs (v ∷ row) typed = shifted v row (length cs) 0 ∙ columns_padded (length cs) row (no_more 0 cs row typed)

-- the rows that pass a test, as they are shown
pub shown_rows : (s : Schema) (db : Trees) (t : Table) → t.key ≡ None → (test kept : Row → Bool) → ((r : Row) → test r ≡ kept (padded (length t.columns) (drop 1 r))) → (rs : List Row)
    → AllByRecursion (λ row. passes Datatype s db t row ≡ true) rs
    → map (at_places (range_with_len 1 (length t.columns))) (filter test rs) ≡ filter kept (map (λ r. padded (length t.columns) (drop 1 r)) rs)
shown_rows s db t key test kept same [] typed = refl
shown_rows s db t key test kept same (r ∷ rs) typed =
    let fits : are_typed t.key 0 t.columns (drop 1 r) ≡ true = (and_parts (are_typed t.key 0 t.columns (drop 1 r)) (has_computed t r) typed.0).0 in
    let more = shown_rows s db t key test kept same rs typed.1 in
    elim (cases_Bool (kept (padded (length t.columns) (drop 1 r)))) [
      | inl is ↦ rw (same r, is) (ap₂ (λ x xs. x ∷ xs) (shown_row t.columns r (rw key at fits)) more)
      | inr isnt ↦ rw (same r, isnt) more
    ]
