-- What a text reads that selects from a definition's table.
use Rattle.std.proofs.Common.{◌≡◌, refl, ap, Ok, List, ℕ, ◌-◌, ◌<◌, ◌≤◌, [], ◌∷◌, map, Option, None, true, not, nat_le, length, arith, ◌&&◌, filter, IsPermutation}
use Rattle.std.specs.List.{AllByRecursion, list_all}
use Rattle.std.proofs.lemmas.Bool.{and_parts}
use Rattle.std.proofs.lemmas.List.Sorted.{IsPermutation-sym}
use Rattle.sqlite_value.specs.Order.{Row}
use Rattle.sqlite_sql.specs.Ops.{is_null}
use Rattle.sqlite_sql.specs.Term.{Term}
use Rattle.sqlite_sql.specs.Query.{IsAnswer}
use Rattle.sqlite_sql.specs.Program.{overlay}
use Rattle.sqlite_ast.specs.declared.Expr.{Expr}
use Rattle.sqlite_draft.specs.Query.{query_of}
use Rattle.sqlite_schema.specs.declared.schema.Schema.{Schema}
use Rattle.sqlite_schema.specs.declared.schema.Table.{Table}
use Rattle.sqlite_schema.specs.declared.schema.Constraint.TheVariants.{Datatype}
use Rattle.sqlite_schema.specs.Rules.{passes}
use Rattle.sqlite_rules.proofs.ListLemmas.{has_got, all_has}
use Rattle.sqlite_resolve.specs.declared.scope.Output.{Output}
use Rattle.sqlite_resolve.specs.declared.state.Carried.{Carried}
use Rattle.sqlite_resolve.specs.Compile.{first}
use Rattle.sqlite_resolve.specs.Lowering.{nothing}
use Rattle.sqlite_resolve.specs.Body.{tests}
use Rattle.sqlite.specs.Effect.{Database, IsDatabase}
use Rattle.sqlite.specs.State.{State, Shown}
use Rattle.sql_tables.specs.{TableDef, table_of, columns_of, IsDeclared, HasTable, filter_of}
use Rattle.sql_queries.specs.{has_values, OnlyReads, Lists, Finds, names_at, all_column_indexes, first_of, is_named, is_plain, select_where, parsed_as}
use Rattle.sql_queries.specs.Selects.{Selects}
use Rattle.sql_tables.proofs.WhereGiven.{one_given, two_given, three_given}
use Rattle.sql_queries.proofs.SelectResolves.{names_of}
use Rattle.sql_queries.proofs.QueryMeaning.{draft_of, no_limit, no_limit_read}
use Rattle.sql_queries.proofs.ShownRows.{at_places, passes_all}
use Rattle.sql_queries.proofs.QueryAnswer.{places_of, answer_lists}
use Rattle.sql_queries.proofs.QueryAsks.{Lowered, only_asks, asks_for}
use Rattle.sql_queries.proofs.ColumnEntries.{entry_at, entries, names_are, places_are, readable, given_column}
use Rattle.sql_queries.proofs.StoredColumns.{shown_rows}
use Rattle.sql_queries.proofs.Comparisons.{tests_of, pass_all}

module _ (s : Schema) (table_def : TableDef) (at tree : ℕ) (declared : IsDeclared s table_def at tree) where
  lowered : (budget : ℕ) (outs : List Output) (last : Carried) (given : List ℕ) → 11 < budget → nat_le (length given) 3 ≡ true → list_all (λ column_index. is_named table_def column_index && is_plain table_def column_index) given ≡ true
      → Lowered s table_def at budget outs last (filter_of (names_of (entries table_def given))) (tests_of (table_of table_def tree) 0 (entries table_def given))
  unfolding tests
  lowered budget outs last [] enough few known = record { after = budget; later = last; left = omega arith; tested = refl }
  lowered budget outs last (a ∷ []) enough few known =
      let one = given_column table_def tree a (and_parts _ _ known).0 in
      let lower = one_given s (table_of table_def tree) table_def.name at declared.listed outs (entry_at table_def a) budget last one.0 one.1 (omega arith) in
      record { after = budget - 1 - 1 - 1; later = nothing; left = omega arith; tested = lower }
  lowered budget outs last (a ∷ b ∷ []) enough few known =
      let more = and_parts _ _ known in
      let one = given_column table_def tree a more.0 in
      let two = given_column table_def tree b (and_parts _ _ more.1).0 in
      let lower = two_given s (table_of table_def tree) table_def.name at declared.listed outs (entry_at table_def a) (entry_at table_def b) budget last (one.0.0, one.0.1, two.0) one.1 two.1 (omega arith) in
      record { after = budget - 1 - 1 - 1 - 1 - 1 - 1 - 1; later = nothing; left = omega arith; tested = lower }
  lowered budget outs last (a ∷ b ∷ c ∷ []) enough few known =
      let more = and_parts _ _ known in
      let most = and_parts _ _ more.1 in
      let one = given_column table_def tree a more.0 in
      let two = given_column table_def tree b most.0 in
      let three = given_column table_def tree c (and_parts _ _ most.1).0 in
      let lower = three_given s (table_of table_def tree) table_def.name at declared.listed outs (entry_at table_def a) (entry_at table_def b) (entry_at table_def c) budget last (one.0.0, one.0.1, (two.0.0, two.0.1, three.0)) one.1 two.1 three.1 (omega arith) in
      record { after = budget - 1 - 1 - 1 - 1 - 1 - 1 - 1 - 1 - 1 - 1 - 1; later = nothing; left = omega arith; tested = lower }
  lowered budget outs last (a ∷ b ∷ c ∷ d ∷ more) enough few known =
      let short : length (a ∷ b ∷ c ∷ d ∷ more) ≤ 3 = grind (arith, few) in
      absurd (omega arith)

  module _ (given text : List ℕ) (it : Selects table_def given text) where
    abbrev test : Option Expr
    test = filter_of (names_of (entries table_def given))

    abbrev terms : List Term
    terms = tests_of (table_of table_def tree) 0 (entries table_def given)

    lowers : (budget : ℕ) (outs : List Output) (last : Carried) → 11 < budget → Lowered s table_def at budget outs last test terms
    lowers budget outs last enough = let parts = and_parts _ _ it.compared in lowered budget outs last given enough parts.0 parts.1

    written : first text ≡ Ok (parsed_as (select_where table_def.name (names_at table_def (all_column_indexes table_def)) test (names_at table_def (first_of table_def.keys)) None) it.parameters (length text))
    written = rw (names_are table_def given) it.written

    -- it only reads
    pub only_reads : OnlyReads s text
    only_reads = only_asks s table_def at tree declared (first_of table_def.keys) (readable table_def it.readable) test terms lowers None no_limit (no_limit_read s) text it.parameters written

    answers : (old new : State) → old.now.schema ≡ s → (values : Row) (rows : List Row) → Shown text values old new rows
        → IsAnswer (query_of (draft_of (table_of table_def tree) (entries table_def (all_column_indexes table_def)) (entries table_def (first_of table_def.keys)) terms)) (overlay old.now.trees []) values rows
    answers = asks_for s table_def at tree declared (first_of table_def.keys) (readable table_def it.readable) test terms lowers None no_limit (no_limit_read s) text it.parameters written

module _ (old new : State) (table_def : TableDef) (given text : List ℕ) (it : Selects table_def given text) (has : HasTable old.now.schema table_def) where
  abbrev schema : Schema
  schema = old.now.schema

  abbrev table : Table
  table = table_of table_def has.tree

  abbrev asked : List Term
  asked = tests_of table 0 (entries table_def given)

  pub reads_only : OnlyReads schema text
  reads_only = only_reads schema table_def has.at has.tree has.declared given text it

  module _ (values : Row) (rows : List Row) (shows : Shown text values old new rows) where
    read : IsPermutation (map (at_places (places_of table (entries table_def (all_column_indexes table_def)))) (filter (passes_all values asked) (old.now.trees has.tree))) rows
    read =
        let a = answers schema table_def has.at has.tree has.declared given text it old new refl values rows shows in
        rw a.shown (answer_lists table (entries table_def (all_column_indexes table_def)) (entries table_def (first_of table_def.keys)) asked no_limit old.now.trees values rows a)

    -- what is shown are the rows with the given values
    pub selected : IsDatabase old.now → length values ≡ length given → list_all (λ v. not (is_null v)) values ≡ true → Finds old.now table_def given values rows
    selected sound len some =
        let parts = readable table_def it.readable in
        let listed = has_got schema.tables has.at table has.declared.listed in
        let typed = all_has (λ (t : Table). AllByRecursion (λ row. passes Datatype schema old.now.trees t row ≡ true) (old.now.trees t.tree)) schema.tables table (sound.obeys.rules Datatype) listed in
        let test = passes_all values asked in
        let known = (and_parts (nat_le (length given) 3) (list_all (λ column_index. is_named table_def column_index && is_plain table_def column_index) given) it.compared).1 in
        let same = λ (r : Row). pass_all table_def has.tree 0 given values values r known len some refl in
        let rows_are = shown_rows schema old.now.trees table refl test (has_values given values) same (old.now.trees has.tree) typed in
        let shown_are = rw (places_are table_def has.tree (all_column_indexes table_def) parts.columns, rows_are) at read in
        record { at = has.at; tree = has.tree; declared = has.declared; low = has.low; same = IsPermutation-sym _ _ shown_are }

-- rows with no value asked for are all rows
pub all_listed : (db : Database) (table_def : TableDef) (rows : List Row) → Finds db table_def [] [] rows → Lists db table_def rows
all_listed db table_def rows found = record { at = found.at; tree = found.tree; declared = found.declared; low = found.low; same = rw (none_asked (map (columns_of table_def) (db.trees found.tree))) at found.same }
  where
    none_asked : (rs : List Row) → filter (has_values [] []) rs ≡ rs
    none_asked [] = refl
    none_asked (r ∷ rs) = ap (λ more. r ∷ more) (none_asked rs)
