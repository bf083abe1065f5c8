-- What a text that takes away a row by its key makes of the definition's table.
use Rattle.std.proofs.Common.{◌≡◌, ◌⊎◌, inl, inr, ℕ, suc, ◌+◌, List, [], ◌∷◌, ◌++◌, map, drop, filter, length, true, false, not, Option, Some, None, Ok, Err, refl, sym, ap, subst, ◌∙◌, slice_get, ltb, IsPermutation}
use Rattle.sqlite.specs.Order.{Row}
use Rattle.sqlite.specs.Term.{Term}
use Rattle.sqlite.specs.Schema.{Schema}
use Rattle.sqlite.specs.Table.{Table}
use Rattle.sqlite_ast.specs.declared.Expr.{Expr}
use Rattle.sqlite_ast.specs.declared.Statement.TheVariants as written
use Rattle.std.specs.List.{list_any, list_all}
use Rattle.std.proofs.lemmas.Bool.{and_parts, cases_Bool}
use Rattle.sqlite.specs.declared.types.Value.TheVariants.{Null}
use Rattle.sqlite.specs.Tree.{Trees}
use Rattle.sqlite.specs.Rows.{Written, Deletes}
use Rattle.sqlite.specs.Edit.{edit_of}
use Rattle.sqlite.specs.Rowids.TheVariants.{Given}
use Rattle.sqlite.specs.Effect.{IsDatabase}
use Rattle.sqlite.specs.State.{State, Executes}
use Rattle.sqlite_sql.specs.Term.{holds}
use Rattle.sqlite_exec.proofs.RunLemmas.{answer_alone}
use Rattle.sqlite_schema.specs.declared.schema.Keys.TheVariants.{Enforced}
use Rattle.sqlite_schema.specs.Rules.{agree}
use Rattle.sqlite_value.specs.Keys.{plain, later}
use Rattle.sqlite_value.specs.declared.keys.Order.{Order}
use Rattle.sqlite_trees.specs.Tree.{rowid, has_rowid}
use Rattle.sqlite_trees.specs.View.{IsShaped}
use Rattle.sqlite_trees.specs.declared.store.Shape.TheVariants as shape
use Rattle.sqlite_trees.proofs.TreeLemmas.{IsShaped-filter}
use Rattle.sqlite_trees.proofs.ListLemmas.{filter-map, IsPermutation-filter}
use Rattle.sqlite_rules.specs.Lists.{Has}
use Rattle.sqlite_rules.specs.Edit.{without_all, id_in}
use Rattle.sqlite_rules.specs.Calls.{ids_of}
use Rattle.sqlite_rules.specs.Probe.{AreFound, equalities, other_rowid}
use Rattle.sqlite_rules.proofs.ProbeLemmas.{found_rowids, passes_pair, has_mapped, mapped_has}
use Rattle.sqlite_rules.proofs.ListLemmas.{all_has, some_has, some_from}
use Rattle.sql_tables.specs.{padded, columns_of, column_indexes_from, has_values, delete_by_key, IsDeleteStatement, taking, IsDeclared, HasStoredRows, TableDef, table_of}
use Rattle.sql_tables.proofs.RowLists.{same_bool, filter_on, without_is}
use Rattle.sql_tables.proofs.RowConflicts.{same_row, own_rowid, column_shift}
use Rattle.sql_tables.proofs.TextsCompile.{plain_command, program_of, compiles_to}
use Rattle.sql_tables.proofs.PutUpserts.{went, same_value, Trees_turn, task_of, step_crash_states}
use Rattle.sql_tables.proofs.StatementEffect.{not_run, Turns, turned_by, ran_as}
use Rattle.sqlite.specs.Command.TheVariants.{Delete}
use Rattle.sqlite_schema.specs.Program.{lets_of}
use Rattle.sqlite_schema.specs.Names.{table_named}
use Rattle.sqlite_draft.specs.Query.{query_of}
use Rattle.sqlite_typing.specs.Types.{accepts_program}
use Rattle.sqlite_syntax.specs.declared.statement.Parsed.{Parsed}
use Rattle.sqlite_resolve.specs.declared.error.CompileError.TheVariants.{Mismatch}
use Rattle.sqlite_resolve.specs.Program.{program}
use Rattle.sqlite_resolve.specs.Compile.{first, compiled, meaning, timed, returning, shows, command, delete, small}
use Rattle.sqlite_resolve.specs.Write.{deleted}
use Rattle.sqlite_resolve.specs.Lowering.{Checked, and_then}
use Rattle.sqlite.specs.Command.{Command}

-- the types of the terms are accepted, or the text is refused
module _ (schema : Schema) (p : Parsed) (name : List ℕ) (test : Option Expr) (at tree : ℕ) (table : Table) (tests : List Term) (statement : p.statement ≡ written.Delete name test []) (untimed : p.formats ≡ [])
    (named : table_named schema name ≡ Some at) (listed : slice_get schema.tables at ≡ Some table) (takes : deleted schema at table test ≡ Ok (taking tree tests)) where
  commands : (delete schema name test ≡ Ok (Delete at (program_of (taking tree tests)))) ⊎ (delete schema name test ≡ Err Mismatch)
  unfolding delete program
  commands = elim (cases_Bool (accepts_program schema (lets_of (program_of (taking tree tests))) (query_of (taking tree tests)) [])) [
    | inl fine ↦ inl (rw (named, listed, takes, fine) refl)
    | inr wrong ↦ inr (rw (named, listed, takes, wrong) refl)
  ]

  times : timed schema p.formats p.statement ≡ []
  unfolding timed
  times = rw (statement, untimed) refl

  means : (c : Checked Command) → delete schema name test ≡ c → meaning schema p (small p.names) ≡ and_then c (λ c. Ok (c, None))
  unfolding meaning returning shows command
  means c is = rw (statement, is) refl

  pub compiles_delete : (text : List ℕ) → first text ≡ Ok p → (compiled schema text ≡ Ok (plain_command p (Delete at (program_of (taking tree tests))))) ⊎ (compiled schema text ≡ Err Mismatch)
  compiles_delete text is = elim commands [
    | inl fine ↦ inl (compiles_to schema p (Ok (Delete at (program_of (taking tree tests)))) times (means _ fine) text is)
    | inr wrong ↦ inr (compiles_to schema p (Err Mismatch) times (means _ wrong) text is)
  ]

-- ---- the rows

agree_left : (o : Order) (ps qs : List ℕ) (n : ℕ) (a b : Row) → list_all (λ p. ltb 0 p) ps ≡ true → agree o ps a qs b ≡ agree o ps (Null ∷ padded n (drop 1 a)) qs b
agree_left o [] [] n a b h = refl
agree_left o [] (q ∷ qs) n a b h = refl
agree_left o (p ∷ ps) [] n a b h = refl
agree_left o (p ∷ ps) (q ∷ qs) n a b h = let each = and_parts _ _ h in rw (column_shift n a p each.0, agree_left (later o) ps qs n a b each.1) refl

gone_found : (rows : List Row) → IsShaped shape.Table rows → (tests : List Term) (params : Row) (found : List Row) → AreFound tests rows params found
    → (r : Row) → Has rows r → list_any (λ id. has_rowid id r) (ids_of found) ≡ list_all (holds (params ∷ r ∷ [])) tests
gone_found rows shaped tests params found are r there =
    same_bool _ _
    (λ some.
    let id = some_has (λ id. has_rowid id r) (ids_of found) some in
    let x = has_mapped (λ x. id_in (rowid x)) found id.0 id.1 in
    let source = are.sound x.0 x.1 in
    let same : r ≡ source.0 = same_row rows shaped r source.0 x.0 id.0 there source.1 id.2 x.2 source.3 in
    subst (λ y. list_all (holds (params ∷ y ∷ [])) tests ≡ true) (sym same) source.2)
    (λ passes.
    let had = are.complete r there passes in
    some_from (λ id. has_rowid id r) (ids_of found) (id_in (rowid r)) (mapped_has (λ x. id_in (rowid x)) found (rowid r ∷ []) had) (own_rowid r (all_has _ rows r shaped.1 there)))

places_length : (n : ℕ) (key : List ℕ) → length key ≡ length (column_indexes_from n key)
places_length n [] = refl
places_length n (column_index ∷ key) = ap suc (places_length (n + 1) key)

module _ (limit : Option ℕ) (schema : Schema) (table_def : TableDef) (at tree : ℕ) (declared : IsDeclared schema table_def at tree) (params : Row) (key : List ℕ) (above : list_all (λ p. ltb 0 p) key ≡ true) where
  abbrev column_indexes : List ℕ
  column_indexes = column_indexes_from 0 key

  abbrev tests : List Term
  tests = equalities plain key column_indexes ++ other_rowid false

  rows_taken : (db : Trees) (w : Written) (rows : List Row) → IsShaped shape.Table (db tree) → IsPermutation rows (map (columns_of table_def) (db tree))
      → Deletes (task_of limit Enforced schema table_def at tree declared params) (program_of (taking tree tests)) db (Ok w) → Trees_turn schema table_def tree db w.trees (delete_by_key key params rows)
  rows_taken db w rows shaped same h =
      let queried = went h in
      let a = answer_alone (query_of (taking tree tests)) db params queried.0 queried.1.answer Null in
      let found : AreFound tests (db tree) params queried.0 = found_rowids tree tests db params queried.0
      (record { staged = a.staged; grouped = a.grouped; kept = a.kept; distinct = a.distinct; ordered = a.ordered; same = a.same; sorted = a.sorted; shown = a.shown }) in
      let edited = went queried.2 in
      let applies = step_crash_states limit Enforced schema table_def at tree declared params db edited.0 (edit_of db (table_of table_def tree) (ids_of queried.0) Given 0 []) refl edited.1 in
      let now : w.trees ≡ edited.0 = ap (λ (it : Written). it.trees) (same_value edited.2) in
      let P = λ (v : Row). not (has_values key params v) in
      let test_is = λ (r : Row). passes_pair plain key column_indexes r params (places_length 0 key) ∙ agree_left plain key column_indexes (length table_def.columns) r params above in
      let left : without_all (db tree) (ids_of queried.0) ≡ filter (λ r. P (columns_of table_def r)) (db tree) =
      without_is (ids_of queried.0) (db tree) ∙ filter_on _ _ (db tree) (λ r there. ap not (gone_found (db tree) shaped tests params queried.0 found r there ∙ test_is r)) in
      let tree_is : w.trees tree ≡ filter (λ r. P (columns_of table_def r)) (db tree) = ap (λ (t : Trees). t tree) now ∙ (applies.rows ∙ left) in
      record {
        shaped = subst (IsShaped shape.Table) (sym tree_is) (IsShaped-filter shape.Table _ (db tree) shaped);
        same = subst (λ (r : List Row). IsPermutation (delete_by_key key params rows) (map (columns_of table_def) r)) (sym tree_is) (subst (IsPermutation (filter P rows)) (filter-map P (columns_of table_def) (db tree)) (IsPermutation-filter P rows (map (columns_of table_def) (db tree)) same));
        others = λ t listed away. ap (λ (d : Trees). d t.tree) now ∙ all_has _ schema.tables t applies.tables listed away;
      }

pub take_turns : (text : List ℕ) (table_def : TableDef) (key : List ℕ) → IsDeleteStatement text table_def key → (params : Row)
    → (old new : State) (count : ℕ) (rows : List Row) → IsDatabase old.now → (has_rows : HasStoredRows old.now table_def rows) → Executes text params old new (Ok count) → Turns old new table_def has_rows.tree (delete_by_key key params rows)
take_turns text table_def key says params old new count rows sound has_rows h =
    let schema = old.now.schema in
    let tree = has_rows.tree in
    let declared = has_rows.declared in
    let tests = equalities plain key (column_indexes_from 0 key) ++ other_rowid false in
    let c = Delete has_rows.at (program_of (taking tree tests)) in
    elim (compiles_delete schema says.parsed table_def.name says.test has_rows.at tree (table_of table_def tree) tests says.statement says.untimed declared.named declared.listed (says.taken schema has_rows.at tree declared.listed) text says.reads) [
      | inl fine ↦
          let w = ran_as text params old new count says.parsed c fine h in
          turned_by old new table_def params rows (delete_by_key key params rows) has_rows c _ count w w.changed
          (λ it. rows_taken old.step_limit schema table_def has_rows.at tree declared params key says.above old.now.trees it rows has_rows.shaped has_rows.same)
      | inr wrong ↦ absurd (not_run text params old new count Mismatch wrong refl h)
    ]
