-- What a text asks that selects rows of a definition's table, whatever its tests and its limit.
use Rattle.std.proofs.Common.{◌≡◌, ◌⊎◌, inl, inr, refl, sym, ap, ◌∙◌, Ok, Err, List, ℕ, ◌-◌, ◌+◌, ◌<◌, ◌≤◌, [], ◌∷◌, Option, false, length, arith}
use Rattle.std.proofs.lemmas.List.{length-map}
use Rattle.std.proofs.lemmas.List.FromFn.{length-map-range_with_len}
use Rattle.sqlite_value.specs.declared.value.Value.TheVariants.{Null}
use Rattle.sqlite_value.specs.Order.{Row}
use Rattle.sqlite_sql.specs.Term.{Term}
use Rattle.sqlite_sql.specs.Query.{IsAnswer}
use Rattle.sqlite_sql.specs.Program.{overlay}
use Rattle.sqlite_schema.specs.declared.schema.Schema.{Schema}
use Rattle.sqlite_ast.specs.declared.Expr.{Expr}
use Rattle.sqlite_draft.specs.Query.{query_of}
use Rattle.sqlite_resolve.specs.declared.compiled.Compiled.{Compiled}
use Rattle.sqlite_resolve.specs.declared.scope.Output.{Output}
use Rattle.sqlite_resolve.specs.declared.state.Carried.{Carried}
use Rattle.sqlite_resolve.specs.declared.error.CompileError.TheVariants.{Mismatch}
use Rattle.sqlite_resolve.specs.Compile.{first}
use Rattle.sqlite_resolve.specs.Lowering.{nothing, max_budget}
use Rattle.sqlite_resolve.specs.Scope.{Name}
use Rattle.sqlite_resolve.specs.Select.{constant_or}
use Rattle.sqlite_resolve.specs.Body.{tests}
use Rattle.sqlite_resolve.specs.Expr.{lower_to}
use Rattle.sqlite.specs.Effect.{Reads}
use Rattle.sqlite.specs.Listing.{understood, reads_listing}
use Rattle.sqlite.specs.State.{State, Shown}
use Rattle.sqlite.proofs.Callers.{IsPlain, command_of, reads_as}
use Rattle.sql_tables.specs.{TableDef, table_of, IsDeclared}
use Rattle.sql_queries.specs.{OnlyReads, names_at, all_column_indexes, select_where, parsed_as}
use Rattle.sql_tables.proofs.WhereGiven.{Entry}
use Rattle.sql_tables.proofs.ColumnIsRead.{context_of, state_at}
use Rattle.sql_queries.proofs.SelectResolves.{names_of, last_after, budget_after}
use Rattle.sql_queries.proofs.QueryMeaning.{outputs_of, draft_up_to, no_limit, compiled_to, text_understood, text_unlisted}
use Rattle.sql_queries.proofs.ColumnEntries.{entry_at, entries, names_are, are_columns, Readable}

budget_is : (budget : ℕ) (es : List Entry) → length es ≤ budget → budget_after budget es + length es ≡ budget
budget_is budget [] h = omega arith
budget_is budget (e ∷ es) h = omega (arith, budget_is (budget - 1) es (omega arith))

-- a text that was refused has shown nothing
refused : {X : Type 0} (old new : State) (text : List ℕ) (values : Row) (rows : List Row) → understood old.now.schema text ≡ Err Mismatch → Shown text values old new rows → X
unfolding Shown
refused old new text values rows no_text h = absurd (let both = sym no_text ∙ h.1.is in cc)

-- WHERE as it was lowered to these terms, with what is left of the budget
pub record Lowered (s : Schema) (table_def : TableDef) (at budget : ℕ) (outs : List Output) (last : Carried) (test : Option Expr) (terms : List Term) : Type 0 where
  pub after : ℕ
  pub later : Carried
  pub left : budget ≤ after + 11
  pub tested : tests (lower_to 700) (context_of s table_def.name at outs false) [] test (state_at 2 budget last) ≡ Ok (terms, state_at 2 after later)

-- the text selects all columns by this WHERE, which is lowered to these terms, in the order of these columns, up to this limit
module _ (s : Schema) (table_def : TableDef) (at tree : ℕ) (declared : IsDeclared s table_def at tree) (by : List ℕ) (formed : Readable table_def by) (test : Option Expr) (terms : List Term)
    (lowers : (budget : ℕ) (outs : List Output) (last : Carried) → 11 < budget → Lowered s table_def at budget outs last test terms)
    (limit : Option Expr) (count : Term) (counted : constant_or s no_limit limit ≡ Ok count) (text : List ℕ) (parameters : List Name)
    (written : first text ≡ Ok (parsed_as (select_where table_def.name (names_at table_def (all_column_indexes table_def)) test (names_at table_def by) limit) parameters (length text))) where
  abbrev shown : List Entry
  shown = entries table_def (all_column_indexes table_def)

  abbrev sorting : List Entry
  sorting = entries table_def by

  width : length shown ≡ length table_def.columns
  width = length-map-range_with_len (entry_at table_def) 1 (length table_def.columns)

  room : length table_def.columns + length by + 12 < max_budget
  room = formed.few

  left_is : budget_after max_budget shown + length table_def.columns ≡ max_budget
  left_is = ap (λ n. budget_after max_budget shown + n) (sym width) ∙ budget_is max_budget shown (omega (arith, width, room))

  where_read : Lowered s table_def at (budget_after max_budget shown) (outputs_of (table_of table_def tree) shown) (last_after (table_of table_def tree) nothing shown) test terms
  where_read = lowers (budget_after max_budget shown) (outputs_of (table_of table_def tree) shown) (last_after (table_of table_def tree) nothing shown) (omega (arith, left_is, room))

  enough : length shown < max_budget
  enough = omega (arith, width, room)

  enough_left : length sorting < where_read.after
  enough_left =
      let order : length sorting ≡ length by = length-map by (entry_at table_def) in
      let left = where_read.left in
      omega (arith, left_is, room)

  read_as : first text ≡ Ok (parsed_as (select_where table_def.name (names_of shown) test (names_of sorting) limit) parameters (length text))
  read_as = rw (names_are table_def (all_column_indexes table_def), names_are table_def by) written

  abbrev compiled : Compiled
  compiled = compiled_to s (table_of table_def tree) table_def.name at declared.listed shown test sorting limit count counted where_read.after where_read.later terms declared.named
      (are_columns table_def tree (all_column_indexes table_def) formed.columns) (are_columns table_def tree by formed.order) enough enough_left where_read.tested parameters (length text)

  text_is : (understood s text ≡ Ok compiled) ⊎ (understood s text ≡ Err Mismatch)
  text_is = text_understood s (table_of table_def tree) table_def.name at declared.listed shown test sorting limit count counted where_read.after where_read.later terms declared.named
      (are_columns table_def tree (all_column_indexes table_def) formed.columns) (are_columns table_def tree by formed.order) enough enough_left where_read.tested text parameters (length text) read_as

  unlisted : reads_listing s text ≡ false
  unlisted = text_unlisted s (table_of table_def tree) table_def.name at declared.listed shown test sorting limit count counted where_read.after where_read.later terms declared.named
      (are_columns table_def tree (all_column_indexes table_def) formed.columns) (are_columns table_def tree by formed.order) enough enough_left where_read.tested text parameters (length text) read_as

  -- it only reads
  pub only_asks : OnlyReads s text
  only_asks = elim text_is [
    | inl known ↦ rw known (refl, refl)
    | inr mismatch ↦ rw mismatch tt
  ]

  -- and what is shown is the answer of its query
  pub asks_for : (old new : State) → old.now.schema ≡ s → (values : Row) (rows : List Row) → Shown text values old new rows → IsAnswer (query_of (draft_up_to (table_of table_def tree) shown sorting terms count)) (overlay old.now.trees []) values rows
  asks_for old new same values rows shows = elim text_is [
    | inl known ↦
        let plain : IsPlain (understood s text) = rw known (refl, refl) in
        let reads : Reads compiled.command old.now values rows = reads_as text values old new s same compiled.command (ap command_of known) plain unlisted rows shows in
        reads.answer Null
    | inr mismatch ↦ refused old new text values rows (rw same mismatch) shows
  ]
