-- What a text reads that selects a page.
use Rattle.std.proofs.Common.{◌≡◌, refl, ap, ap₂, ◌∙◌, Ok, List, ℕ, suc, ◌-◌, ◌+◌, ◌<◌, ◌≤◌, [], ◌∷◌, Option, map, drop, take, true, not, nat_le, nat_lt, length, arith, ◌&&◌}
use Rattle.std.specs.List.{AllByRecursion, list_all}
use Rattle.std.proofs.lemmas.Bool.{and_parts, not-true}
use Rattle.std.proofs.lemmas.List.Sorted.{IsPermutation-sym}
use Rattle.sqlite_value.specs.Order.{Row}
use Rattle.sqlite_sql.specs.declared.ops.CompareOp.TheVariants.{Eq, Gt}
use Rattle.sqlite_sql.specs.Ops.{is_null}
use Rattle.sqlite_sql.specs.Term.{Term, col}
use Rattle.sqlite_sql.specs.Query.{IsAnswer, Query, Output as Shows}
use Rattle.sqlite_sql.specs.Program.{overlay}
use Rattle.sqlite_ast.specs.declared.Expr.{Expr}
use Rattle.sqlite_draft.specs.Query.{query_of}
use Rattle.sqlite_resolve.specs.Select.{constant_or}
use Rattle.std.proofs.lemmas.Grind.{common_steps}
use Rattle.sqlite_schema.specs.declared.schema.Schema.{Schema}
use Rattle.sqlite_schema.specs.declared.schema.Table.{Table}
use Rattle.sqlite_schema.specs.declared.schema.Constraint.TheVariants.{Datatype}
use Rattle.sqlite_schema.specs.Rules.{passes}
use Rattle.sqlite_rules.proofs.ListLemmas.{has_got, all_has}
use Rattle.sqlite_resolve.specs.declared.scope.Output.{Output}
use Rattle.sqlite_resolve.specs.declared.state.Carried.{Carried}
use Rattle.sqlite_resolve.specs.Compile.{first}
use Rattle.sqlite_resolve.specs.Lowering.{nothing, max_budget}
use Rattle.sqlite.specs.Effect.{IsDatabase}
use Rattle.sqlite.specs.State.{State, Shown}
use Rattle.sql_tables.specs.{TableDef, table_of, columns_of, IsDeclared, HasTable}
use Rattle.sql_queries.specs.{OnlyReads, column_at, names_at, all_column_indexes, select_where, filter_after, up_to, parsed_as, SelectsPage, IsPage, AreBounds, is_beyond, is_compared}
use Rattle.sql_tables.proofs.WhereGiven.{Entry, test_of}
use Rattle.sql_queries.proofs.WhereAfter.{above_test, none_above, one_above, two_above}
use Rattle.sql_queries.proofs.SelectResolves.{names_of}
use Rattle.sql_queries.proofs.QueryMeaning.{no_limit, limit_read, draft_up_to}
use Rattle.sql_queries.proofs.ShownRows.{passes_all}
use Rattle.sql_queries.proofs.ColumnEntries.{entry_at, entries, names_are, places_are, readable_by, given_column}
use Rattle.sql_queries.proofs.StoredColumns.{shown_rows}
use Rattle.sql_queries.proofs.Comparisons.{compares, next_param}
use Rattle.sql_queries.proofs.PagesInOrder.{ordered_rows}
use Rattle.sql_queries.proofs.QueryAsks.{Lowered, only_asks, asks_for}
use Rattle.std.proofs.Math.Bool.{and-true}

-- ---- the tests

abbrev pub page_tests : Table → ℕ → List Entry → Entry → List Term
page_tests table n [] next = above_test table next n ∷ []
page_tests table n (e ∷ es) next = test_of table e n ∷ page_tests table (suc n) es next

pass_page : (table_def : TableDef) (tree n : ℕ) (column_indexes : List ℕ) (next : ℕ) (params values row : Row) → list_all (is_compared table_def) column_indexes ≡ true → is_compared table_def next ≡ true
    → length values ≡ length column_indexes + 2 → list_all (λ v. not (is_null v)) values ≡ true → drop n params ≡ values
    → passes_all params (page_tests (table_of table_def tree) n (entries table_def column_indexes) (entry_at table_def next)) row ≡ is_beyond column_indexes next values (columns_of table_def row)
pass_page table_def tree n [] next params [] row known top len some from = absurd (omega (arith, len))
pass_page table_def tree n [] next params (v ∷ vs) row known top len some from =
    let this = and_parts _ _ top in
    let real = and_parts _ _ some in
    let at = next_param n params v vs from in
    and-true _ ∙ compares Gt refl table_def tree next n params row v this.0 this.1 (not-true _ real.0) at.0
pass_page table_def tree n (p ∷ ps) next params [] row known top len some from = absurd (omega (arith, len))
pass_page table_def tree n (p ∷ ps) next params (v ∷ vs) row known top len some from =
    let parts = and_parts _ _ known in
    let this = and_parts _ _ parts.0 in
    let real = and_parts _ _ some in
    let at = next_param n params v vs from in
    ap₂ (λ a b. a && b) (compares Eq refl table_def tree p n params row v this.0 this.1 (not-true _ real.0) at.0)
    (pass_page table_def tree (suc n) ps next params vs row parts.1 top (omega (arith, len)) real.1 at.1)

-- ---- the cut

take_less : (n : ℕ) (xs : List Row) → take n (take (n + 1) xs) ≡ take n xs
take_less n xs = grind (common_steps, arith)

goes_on : (n : ℕ) (xs : List Row) → nat_lt n (length (take (n + 1) xs)) ≡ nat_lt n (length xs)
goes_on n xs = grind (common_steps, arith)

-- ---- the text

module _ (s : Schema) (table_def : TableDef) (at tree : ℕ) (declared : IsDeclared s table_def at tree) where
  lowered : (budget : ℕ) (outs : List Output) (last : Carried) (given : List ℕ) (next : ℕ) → 11 < budget → nat_le (length given) 2 ≡ true → list_all (is_compared table_def) given ≡ true → is_compared table_def next ≡ true
      → Lowered s table_def at budget outs last (filter_after (names_of (entries table_def given)) (column_at table_def next).name) (page_tests (table_of table_def tree) 0 (entries table_def given) (entry_at table_def next))
  lowered budget outs last [] next enough few known top =
      let f = given_column table_def tree next top in
      let lower = none_above s (table_of table_def tree) table_def.name at declared.listed outs (entry_at table_def next) budget last f.0 f.1 (omega arith) in
      record { after = budget - 1 - 1 - 1; later = nothing; left = omega arith; tested = lower }
  lowered budget outs last (a ∷ []) next enough few known top =
      let one = given_column table_def tree a (and_parts _ _ known).0 in
      let f = given_column table_def tree next top in
      let lower = one_above s (table_of table_def tree) table_def.name at declared.listed outs (entry_at table_def a) (entry_at table_def next) budget last (one.0.0, one.0.1, f.0) one.1 f.1 (omega arith) in
      record { after = budget - 1 - 1 - 1 - 1 - 1 - 1 - 1; later = nothing; left = omega arith; tested = lower }
  lowered budget outs last (a ∷ b ∷ []) next enough few known top =
      let more = and_parts _ _ known in
      let one = given_column table_def tree a more.0 in
      let two = given_column table_def tree b (and_parts _ _ more.1).0 in
      let f = given_column table_def tree next top in
      let lower = two_above s (table_of table_def tree) table_def.name at declared.listed outs (entry_at table_def a) (entry_at table_def b) (entry_at table_def next) budget last (one.0.0, one.0.1, (two.0.0, two.0.1, f.0)) one.1 two.1 f.1 (omega arith) in
      record { after = budget - 1 - 1 - 1 - 1 - 1 - 1 - 1 - 1 - 1 - 1 - 1; later = nothing; left = omega arith; tested = lower }
  lowered budget outs last (a ∷ b ∷ c ∷ more) next enough few known top =
      let short : length (a ∷ b ∷ c ∷ more) ≤ 2 = grind (arith, few) in
      absurd (omega arith)

  module _ (by given : List ℕ) (next : ℕ) (text : List ℕ) (it : SelectsPage table_def by given next text) where
    abbrev test : Option Expr
    test = filter_after (names_of (entries table_def given)) (column_at table_def next).name

    abbrev terms : List Term
    terms = page_tests (table_of table_def tree) 0 (entries table_def given) (entry_at table_def next)

    lowers : (budget : ℕ) (outs : List Output) (last : Carried) → 11 < budget → Lowered s table_def at budget outs last test terms
    lowers budget outs last enough = let parts = and_parts _ _ it.compared in lowered budget outs last given next enough parts.0 parts.1 it.bounded

    counted : constant_or s no_limit (up_to (length given + 2)) ≡ Ok (col 0 (length given + 1))
    counted =
        let next_up : length given + 2 ≡ suc (length given + 1) = omega arith in
        rw next_up (limit_read s (length given + 1))

    written : first text ≡ Ok (parsed_as (select_where table_def.name (names_at table_def (all_column_indexes table_def)) test (names_at table_def by) (up_to (length given + 2))) it.parameters (length text))
    written = rw (names_are table_def given) it.written

    -- it only reads
    pub page_reads : OnlyReads s text
    page_reads = only_asks s table_def at tree declared by (readable_by table_def by it.readable it.ordered) test terms lowers (up_to (length given + 2)) (col 0 (length given + 1)) counted text it.parameters written

    page_asked : (old new : State) → old.now.schema ≡ s → (values : Row) (rows : List Row) → Shown text values old new rows
        → IsAnswer (query_of (draft_up_to (table_of table_def tree) (entries table_def (all_column_indexes table_def)) (entries table_def by) terms (col 0 (length given + 1)))) (overlay old.now.trees []) values rows
    page_asked = asks_for s table_def at tree declared by (readable_by table_def by it.readable it.ordered) test terms lowers (up_to (length given + 2)) (col 0 (length given + 1)) counted text it.parameters written

-- ---- the answer

module _ (old new : State) (table_def : TableDef) (by given : List ℕ) (next : ℕ) (text : List ℕ) (it : SelectsPage table_def by given next text) (has : HasTable old.now.schema table_def) where
  abbrev schema : Schema
  schema = old.now.schema

  abbrev table : Table
  table = table_of table_def has.tree

  abbrev asked : List Term
  asked = page_tests table 0 (entries table_def given) (entry_at table_def next)

  abbrev count : Term
  count = col 0 (length given + 1)

  abbrev asks : Query
  asks = query_of (draft_up_to table (entries table_def (all_column_indexes table_def)) (entries table_def by) asked count)

  module _ (values : Row) (rows : List Row) (shows : Shown text values old new rows) where
    answers : IsAnswer asks (overlay old.now.trees []) values rows
    answers = page_asked schema table_def has.at has.tree has.declared by given next text it old new refl values rows shows

    -- what is shown are the first of the rows with these values and one above another, in their order
    pub page_shown : (most : ℕ) → IsDatabase old.now → AreBounds given most values → IsPage old.now table_def by given next values most (take most rows) (nat_lt most (length rows))
    page_shown most sound bounds =
        let parts = readable_by table_def by it.readable it.ordered in
        let sorting = (and_parts (list_all (is_compared table_def) by) (nat_lt (length table_def.columns + length by + 12) max_budget) it.ordered).0 in
        let listed = has_got schema.tables has.at table has.declared.listed in
        let typed = all_has (λ (t : Table). AllByRecursion (λ row. passes Datatype schema old.now.trees t row ≡ true) (old.now.trees t.tree)) schema.tables table (sound.obeys.rules Datatype) listed in
        let known = (and_parts (nat_le (length given) 2) (list_all (is_compared table_def) given) it.compared).1 in
        let same = λ (r : Row). pass_page table_def has.tree 0 given next values values r known it.bounded bounds.long bounds.known refl in
        let rows_are = shown_rows schema old.now.trees table refl (passes_all values asked) (is_beyond given next values) same (old.now.trees has.tree) typed in
        let ordered = ordered_rows table_def has.tree by sorting parts.order parts.columns asked count old.now.trees values rows answers in
        let whole = map (λ (o : Shows). o.1) answers.ordered in
        let shown_are = rw (places_are table_def has.tree (all_column_indexes table_def) parts.columns, rows_are) at ordered.0 in
        let cut : rows ≡ take (most + 1) whole = rw bounds.up_to at answers.shown in
        record {
          at = has.at;
          tree = has.tree;
          declared = has.declared;
          low = has.low;
          whole = whole;
          same = IsPermutation-sym _ _ shown_are;
          sorted = ordered.1;
          cut = ap (take most) cut ∙ take_less most whole;
          reported = ap (λ (rs : List Row). nat_lt most (length rs)) cut ∙ goes_on most whole;
        }
