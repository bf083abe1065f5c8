-- The rows that a query of a definition's table answers are in the order of the columns that it names, as a store compares values.
use Rattle.std.proofs.Common.{◌≡◌, refl, sym, subst, ap, List, ℕ, zero, suc, ◌+◌, ◌-◌, ◌<◌, [], ◌∷◌, map, drop, true, false, length, arith, All, slice_index_or, filter, IsPermutation, IsSorted, is_lt}
use Rattle.std.specs.List.{list_all}
use Rattle.std.specs.Ordering.{ordering_then}
use Rattle.std.proofs.lemmas.Bool.{and_parts}
use Rattle.std.proofs.lemmas.List.{get_or-map, length-map}
use Rattle.std.proofs.lemmas.List.FromFn.{get_or-map-range_with_len}
use Rattle.std.proofs.lemmas.List.Elements.{All-map}
use Rattle.std.proofs.lemmas.List.Sorted.{All-permutation}
use Rattle.sqlite_value.specs.declared.value.Value.TheVariants.{Null}
use Rattle.sqlite_value.specs.declared.keys.Collation.TheVariants.{Binary}
use Rattle.sqlite_value.specs.Order.{Row, column, value_cmp}
use Rattle.sqlite_trees.specs.Tree.{Trees}
use Rattle.sqlite_sql.specs.Term.{Term, eval_all}
use Rattle.sqlite_sql.specs.Query.{Query, IsAnswer, Output, output, output_cmp, key_cmp}
use Rattle.sqlite_sql.specs.Program.{overlay}
use Rattle.sqlite_resolve.specs.Lowering.{alone}
use Rattle.sqlite_resolve.specs.Scope.{declared}
use Rattle.sqlite_schema.specs.declared.schema.Table.{Table}
use Rattle.sqlite_schema.specs.Names.{place_of}
use Rattle.sqlite_draft.specs.Query.{query_of}
use Rattle.sql_tables.specs.{TableDef, table_of}
use Rattle.sql_queries.specs.{column_at, all_column_indexes, is_named, is_plain, stored_order, is_compared}
use Rattle.sql_tables.proofs.WhereGiven.{Entry}
use Rattle.sql_queries.proofs.ShownRows.{at_places, passes_all}
use Rattle.sql_queries.proofs.QueryMeaning.{draft_up_to, key_for}
use Rattle.sql_queries.proofs.QueryAnswer.{places_of, shows, kept_are, answer_lists}
use Rattle.sql_queries.proofs.ColumnEntries.{Named, named, entries, places_are, binary}
use Rattle.sql_queries.proofs.Comparisons.{next_param}

-- what a row is sorted by are the values of the key's columns
keyed : (table : Table) (params row : Row) (es : List Entry) → eval_all (map (λ k. k.0) (map (key_for table) es)) (params ∷ row ∷ []) ≡ at_places (places_of table es) row
keyed table params row [] = refl
keyed table params row (e ∷ es) = ap (λ more. column row (place_of table e.at) ∷ more) (keyed table params row es)

by_bytes : (table_def : TableDef) (tree column_index : ℕ) → is_plain table_def column_index ≡ true → alone (declared (table_of table_def tree) (column_index - 1) (column_at table_def column_index)) ≡ Binary
unfolding alone
by_bytes table_def tree column_index h = binary _ (and_parts _ _ (and_parts _ _ h).1).1

-- a column of a row as it is shown
shown_at : (table_def : TableDef) (column_index : ℕ) (row : Row) → Named table_def column_index → column (Null ∷ at_places (all_column_indexes table_def) row) column_index ≡ column row column_index
shown_at table_def zero row it = absurd (let cursor = it.cursor in omega arith)
shown_at table_def (suc i) row it =
    let within = it.within in
    get_or-map-range_with_len (column row) 1 (length table_def.columns) i (suc i) Null (omega arith) (omega arith)

module _ (table_def : TableDef) (tree : ℕ) where
  compares : (ps : List ℕ) → list_all (is_compared table_def) ps ≡ true → (at : ℕ) (x y a b : Row) → drop at x ≡ at_places ps a → drop at y ≡ at_places ps b
      → key_cmp at (map (λ k. k.1) (map (key_for (table_of table_def tree)) (entries table_def ps))) x y ≡ stored_order ps (at_places (all_column_indexes table_def) a) (at_places (all_column_indexes table_def) b)
  compares [] known at x y a b first second = refl
  compares (p ∷ ps) known at x y a b first second =
      let parts = and_parts _ _ known in
      let this = and_parts _ _ parts.0 in
      let is = named table_def p this.0 in
      let one = next_param at x (column a p) (at_places ps a) first in
      let two = next_param at y (column b p) (at_places ps b) second in
      let rest = compares ps parts.1 (suc at) x y a b one.1 two.1 in
      rw (by_bytes table_def tree p this.1, one.0, two.0, shown_at table_def p a is, shown_at table_def p b is) (ap (ordering_then (value_cmp (column a p) (column b p))) rest)

  module _ (by : List ℕ) (ordered : list_all (is_compared table_def) by ≡ true) (known : list_all (is_named table_def) by ≡ true) (readable : list_all (is_named table_def) (all_column_indexes table_def) ≡ true) where
    abbrev table : Table
    table = table_of table_def tree

    abbrev IsOf : Output → Type 0
    IsOf o = (r : Row) × (o.0 ≡ at_places by r) × (o.1 ≡ at_places (all_column_indexes table_def) r)

    module _ (terms : List Term) (count : Term) (db : Trees) (params : Row) where
      abbrev q : Query
      q = query_of (draft_up_to table (entries table_def (all_column_indexes table_def)) (entries table_def by) terms count)

      abbrev made : Row → Output
      made r = output q (params ∷ r ∷ [])

      is_of : (r : Row) → IsOf (made r)
      is_of r = (
        r,
        rw (places_are table_def tree by known) at (keyed table params r (entries table_def by)),
        rw (places_are table_def tree (all_column_indexes table_def) readable) at (shows table params r (entries table_def (all_column_indexes table_def))),
      )

      all_of : (rows : List Row) (a : IsAnswer q (overlay db []) params rows) → All IsOf a.ordered
      all_of rows a =
          let picked = filter (passes_all params terms) (db tree) in
          let kept = kept_are table (entries table_def (all_column_indexes table_def)) (entries table_def by) terms count db params rows a in
          let all : All IsOf (map (output q) (map (λ (r : Row). params ∷ r ∷ []) picked)) =
          All-map IsOf (output q) (map (λ (r : Row). params ∷ r ∷ []) picked) (All-map (λ env. IsOf (output q env)) (λ (r : Row). params ∷ r ∷ []) picked (λ k d low. is_of (slice_index_or picked k d))) in
          All-permutation IsOf a.kept a.ordered a.same (subst (All IsOf) (sym kept) all)

      -- two outputs that are in order show rows in order
      in_order : (x y : Output) → IsOf x → IsOf y → output_cmp q x y ≡ stored_order by x.1 y.1
      in_order x y p r = rw (p.2, r.2) (compares by ordered 0 x.0 y.0 p.0 r.0 p.1 r.1)

      sorted_of : (all : List Output) → All IsOf all → IsSorted (output_cmp q) all → IsSorted (stored_order by) (map (λ (o : Output). o.1) all)
      sorted_of all are sorted k d from low =
          let none : Output = ([], []) in
          let long : k + 1 < length all = omega (arith, low, length-map all (λ (o : Output). o.1)) in
          let here : k < length all = omega arith in
          let x = slice_index_or all (k + 1) none in
          let y = slice_index_or all k none in
          let was : is_lt (output_cmp q x y) ≡ false = sorted k none from long in
          rw (get_or-map (λ (o : Output). o.1) all (k + 1) none d long, get_or-map (λ (o : Output). o.1) all k none d here, ← in_order x y (are (k + 1) none long) (are k none here)) was

      -- what is put in order are the rows that pass, as they are shown, and they are in order
      pub ordered_rows : (rows : List Row) (a : IsAnswer q (overlay db []) params rows)
          → IsPermutation (map (at_places (places_of table (entries table_def (all_column_indexes table_def)))) (filter (passes_all params terms) (db tree))) (map (λ (o : Output). o.1) a.ordered)
          × IsSorted (stored_order by) (map (λ (o : Output). o.1) a.ordered)
      ordered_rows rows a =
          (answer_lists table (entries table_def (all_column_indexes table_def)) (entries table_def by) terms count db params rows a, sorted_of a.ordered (all_of rows a) a.sorted)
