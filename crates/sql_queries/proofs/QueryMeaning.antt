-- The query that SELECT of columns of one table means, whatever else the schema has.
use Rattle.std.proofs.Common.{◌≡◌, refl, ◌∙◌, ◌⊎◌, inl, inr, Ok, Err, List, ℕ, suc, negsuc, ◌-◌, ◌+◌, ◌<◌, [], ◌∷◌, ◌++◌, map, None, Some, Option, true, false, slice_get, arith, nat_lt, length, append-nil, ◌&&◌, append_assoc}
use Rattle.std.proofs.lemmas.Bool.{cases_Bool}
use Rattle.std.specs.List.{position_from}
use Rattle.sqlite_value.specs.declared.value.Value.TheVariants.{Int}
use Rattle.sqlite_value.specs.declared.keys.Key.{Key}
use Rattle.sqlite_sql.specs.Term.{Term, lit, col}
use Rattle.sqlite_sql.specs.Query.{inner, end}
use Rattle.sqlite_schema.specs.declared.schema.Schema.{Schema}
use Rattle.sqlite_schema.specs.declared.schema.Table.{Table}
use Rattle.sqlite_schema.specs.declared.command.Command.TheVariants.{Select}
use Rattle.sqlite_schema.specs.Names.{same_name, table_named, place_of}
use Rattle.sqlite_ast.specs.declared.Expr.{Expr}
use Rattle.sqlite_ast.specs.declared.Expr.TheViews.{out-Select, out-roll-Select}
use Rattle.sqlite_draft.specs.declared.join.Step.TheVariants.{Inner}
use Rattle.sqlite_draft.specs.declared.query.Draft.{Draft}
use Rattle.sqlite_draft.specs.Query.{query_of}
use Rattle.sqlite_typing.specs.Types.{accepts_program}
use Rattle.sqlite_resolve.specs.declared.scope.Output.{Output}
use Rattle.sqlite_resolve.specs.declared.state.State.{State}
use Rattle.sqlite_resolve.specs.declared.state.Carried.{Carried}
use Rattle.sqlite_resolve.specs.Lowering.{nothing, fresh, alone, max_budget, spend, begin, finish}
use Rattle.sqlite_resolve.specs.Scope.{Name, declared}
use Rattle.sqlite_resolve.specs.Expr.{lower_to, node, opened, passes}
use Rattle.sqlite_resolve.specs.Terms.{number}
use Rattle.sqlite_resolve.specs.Body.{tests}
use Rattle.sqlite_resolve.specs.Body as body
use Rattle.sqlite_resolve.specs.Order as order
use Rattle.sqlite_resolve.specs.Order.{key, keys, sort, sorts, placed, peeled, alias_in, collation_of, written_on, is_numeral}
use Rattle.sqlite_resolve.specs.Select.{outermost, parts, having, ungrouped, assembled, named, paging, constant_or, constant, stepless}
use Rattle.sqlite_resolve.specs.Program as whole
use Rattle.sqlite_resolve.specs.Program.{query, query_to, level, with, viewing, single, source, sources, program}
use Rattle.sqlite_resolve.specs.Compile.{read, first, compiled, planned, meaning, command, returning, timed}
use Rattle.sqlite_resolve.specs.declared.compiled.Compiled.{Compiled}
use Rattle.sqlite_resolve.specs.declared.error.CompileError.TheVariants.{Mismatch}
use Rattle.sqlite.specs.Listing.{understood, reads_listing}
use Rattle.sql_queries.specs.{sort_by, from_table, core_of, select_where, up_to, parsed_as}
use Rattle.sql_tables.specs.{ast_views}
use Rattle.sql_tables.proofs.ColumnIsRead.{the_bound, context_of, state_at, lower_column}
use Rattle.sql_tables.proofs.WhereGiven.{Entry, AreColumns}
use Rattle.sql_queries.proofs.SelectResolves.{names_of, output_of, last_after, budget_after, core_opens, enough_for, result_read, bounds_read, matching_read}

abbrev pub key_for : Table → Entry → Term × Key
key_for table e = (col 1 (place_of table e.at), record { collation = alone (declared table e.at e.column); descending = false })

abbrev pub outputs_of : Table → List Entry → List Output
outputs_of table = map (output_of table)

no_alias : (table : Table) (name : Name) (n : ℕ) (es : List Entry) → position_from (λ (o : Output). o.is_alias && same_name o.name name) n (outputs_of table es) ≡ None
no_alias table name n [] = refl
no_alias table name n (e ∷ es) = no_alias table name (n + 1) es

-- LIMIT where none is written
abbrev pub no_limit : Term
no_limit = lit (Int (negsuc 0))

abbrev pub draft_up_to : Table → List Entry → List Entry → List Term → Term → Draft
draft_up_to table shown by terms limit = record {
  from = inner table.tree end;
  filter = terms;
  group = None;
  project = map (λ (o : Output). o.term) (outputs_of table shown);
  distinct = false;
  collations = [];
  order = map (key_for table) by;
  limit = limit;
  offset = number 0;
}

abbrev pub draft_of : Table → List Entry → List Entry → List Term → Draft
draft_of table shown by terms = draft_up_to table shown by terms no_limit

pub no_limit_read : (s : Schema) → constant_or s no_limit None ≡ Ok no_limit
unfolding constant_or
no_limit_read s = refl

no_offset : (s : Schema) → constant_or s (number 0) None ≡ Ok (number 0)
unfolding constant_or
no_offset s = refl

-- LIMIT ?n
pub limit_read : (s : Schema) (m : ℕ) → constant_or s no_limit (up_to (suc m)) ≡ Ok (col 0 m)
unfolding constant_or constant stepless lower_to node opened spend begin finish passes ast_views
limit_read s m =
    let back : suc m - 1 ≡ m = omega arith in
    rw back refl

module _ (s : Schema) (table : Table) (name : Name) (at : ℕ) (is : slice_get s.tables at ≡ Some table) where
  sort_read : (done : List (Term × Key)) (es : List Entry) (e : Entry) (next budget : ℕ) (last : Carried) → AreColumns table (e ∷ []) → nat_lt 1 budget ≡ true
      → sort (lower_to 700) (context_of s name at (outputs_of table es) false) (outputs_of table es) done (sort_by e.name) (state_at next budget last)
      ≡ Ok (done ++ key_for table e ∷ [], state_at next (budget - 1) (declared table e.at e.column))
  unfolding sort key peeled alias_in collation_of written_on is_numeral placed ast_views
  sort_read done es e next budget last are enough =
      rw (no_alias table e.name 0 es, lower_column s table name at is (outputs_of table es) false e.name e.at e.column next budget last are.0 are.1 enough 699) refl

  kind_codes_read : (done : List (Term × Key)) (es by : List Entry) (next budget : ℕ) (last : Carried) → AreColumns table by → length by < budget
      → order.sorts_from (lower_to 700) (context_of s name at (outputs_of table es) false) (outputs_of table es) done (map sort_by (names_of by)) (state_at next budget last)
      ≡ Ok (done ++ map (key_for table) by, state_at next (budget_after budget by) (last_after table last by))
  kind_codes_read done es [] next budget last are enough = rw append-nil refl
  kind_codes_read done es (e ∷ by) next budget last are enough =
      rw (sort_read done es e next budget last (are.0, are.1, tt) (enough_for budget e by enough))
      (kind_codes_read (done ++ key_for table e ∷ []) es by next (budget - 1) (declared table e.at e.column) are.2 (omega arith) ∙ rw append_assoc refl)

  body_read : (test : Option Expr) (es : List Entry) (budget after : ℕ) (last later : Carried) (terms : List Term) → table_named s name ≡ Some at → AreColumns table es → length es < budget
      → tests (lower_to 700) (context_of s name at (outputs_of table es) false) [] test (state_at 2 (budget_after budget es) (last_after table last es)) ≡ Ok (terms, state_at 2 after later)
      → body.body (lower_to 700) (outermost s) (core_of name (names_of es) test) (state_at 1 budget last)
      ≡ Ok (record { level = record { tables = the_bound name at ∷ []; shown = outputs_of table es }; steps = Inner table.tree ∷ []; filter = terms }, state_at 2 after later)
  unfolding body.body
  body_read test es budget after last later terms found are enough tested =
      rw (
        core_opens name (names_of es) test,
        bounds_read s table name at is budget last found,
        result_read s table name at is test es budget last are enough,
        matching_read s table name at is (names_of es) test (outputs_of table es) (budget_after budget es) after (last_after table last es) later terms tested,
      ) refl

  -- the state after the columns of the result were read
  abbrev pub after_shown : List Entry → State
  after_shown es = state_at 2 (budget_after max_budget es) (last_after table nothing es)

  parts_read : (test : Option Expr) (es by : List Entry) (after : ℕ) (later : Carried) (terms : List Term) → table_named s name ≡ Some at → AreColumns table es → AreColumns table by
      → length es < max_budget → length by < after → tests (lower_to 700) (context_of s name at (outputs_of table es) false) [] test (after_shown es) ≡ Ok (terms, state_at 2 after later)
      → parts s (core_of name (names_of es) test) (map sort_by (names_of by)) (fresh 1 max_budget)
      ≡ Ok (
        record {
          body = record { level = record { tables = the_bound name at ∷ []; shown = outputs_of table es }; steps = Inner table.tree ∷ []; filter = terms };
          is_grouped = false;
          keys = [];
          collations = [];
          having = [];
          order = map (key_for table) by;
        },
        state_at 2 (budget_after after by) (last_after table later by),
      )
  unfolding parts keys having sorts tests
  parts_read test es by after later terms found are sorted enough enough' tested =
      rw (body_read test es max_budget after nothing later terms found are enough tested, core_opens name (names_of es) test, kind_codes_read [] es by 2 after later sorted enough') refl

  named_read : (test : Option Expr) (es by : List Entry) (after : ℕ) (later : Carried) (terms : List Term) (limit : Term) → table_named s name ≡ Some at → AreColumns table es → AreColumns table by
      → length es < max_budget → length by < after → tests (lower_to 700) (context_of s name at (outputs_of table es) false) [] test (after_shown es) ≡ Ok (terms, state_at 2 after later)
      → named s (core_of name (names_of es) test) (map sort_by (names_of by)) (limit, number 0)
      ≡ Ok (draft_up_to table es by terms limit, map (λ (o : Output). o.name) (outputs_of table es), map (λ (o : Output). o.carried.collation) (outputs_of table es))
  unfolding named assembled ungrouped
  named_read test es by after later terms limit found are sorted enough enough' tested =
      rw (parts_read test es by after later terms found are sorted enough enough' tested, core_opens name (names_of es) test) refl

  select_opens : (columns : List Name) (test : Option Expr) (keys : List Name) (limit : Option Expr) → out-Select (select_where name columns test keys limit)
      ≡ record { with = []; first = core_of name columns test; others = []; order = map sort_by keys; limit = limit; offset = None }
  select_opens columns test keys limit = out-roll-Select _

  source_stays : sources (query_to 15) s (from_table name ∷ []) [] ≡ Ok (s, [])
  unfolding sources source ast_views
  source_stays = refl

  paging_read : (columns : List Name) (test : Option Expr) (keys : List Name) (limit : Option Expr) (count : Term) → constant_or s no_limit limit ≡ Ok count
      → paging s (select_where name columns test keys limit) ≡ Ok (count, number 0)
  unfolding paging
  paging_read columns test keys limit count read = rw (select_opens columns test keys limit, read, no_offset s) refl

  -- the shown columns, WHERE, the columns of ORDER BY, and LIMIT
  module _ (es : List Entry) (test : Option Expr) (by : List Entry) (limit : Option Expr) (count : Term) (counted : constant_or s no_limit limit ≡ Ok count) (after : ℕ) (later : Carried) (terms : List Term) (found : table_named s name ≡ Some at) (are : AreColumns table es) (sorted : AreColumns table by)
      (enough : length es < max_budget) (enough' : length by < after)
      (tested : tests (lower_to 700) (context_of s name at (outputs_of table es) false) [] test (after_shown es) ≡ Ok (terms, state_at 2 after later)) where
    query_read : query s (select_where name (names_of es) test (names_of by) limit)
        ≡ Ok ((draft_up_to table es by terms count, map (λ (o : Output). o.name) (outputs_of table es), map (λ (o : Output). o.carried.collation) (outputs_of table es)), [])
    unfolding query query_to level with whole.whole whole.alone single viewing
    query_read =
        rw (
          select_opens (names_of es) test (names_of by) limit,
          paging_read (names_of es) test (names_of by) limit count counted,
          core_opens name (names_of es) test,
          source_stays,
          named_read test es by after later terms count found are sorted enough enough' tested,
        ) refl

    abbrev pub compiled_to : List Name → ℕ → Compiled
    compiled_to parameters len = record {
      command = Select (record { lets = []; body = query_of (draft_up_to table es by terms count) }) (map (λ (o : Output). o.name) (outputs_of table es));
      returning = None;
      names = parameters;
      formats = [];
      start = 0;
      end = len;
      tail = len;
    }

    module _ (text : List ℕ) (parameters : List Name) (len : ℕ)
        (written : first text ≡ Ok (parsed_as (select_where name (names_of es) test (names_of by) limit) parameters len)) where
      -- the text is this command, or the types of the columns are refused
      pub text_compiled : (compiled s text ≡ Ok (compiled_to parameters len)) ⊎ (compiled s text ≡ Err Mismatch)
      unfolding compiled planned meaning command returning timed read program
      text_compiled = elim (cases_Bool (accepts_program s [] (query_of (draft_up_to table es by terms count)) [])) [
        | inl typed ↦ inl (rw (written, query_read, typed) refl)
        | inr untyped ↦ inr (rw (written, query_read, untyped) refl)
      ]

      pub text_unlisted : reads_listing s text ≡ false
      text_unlisted = elim text_compiled [
        | inl known ↦ rw known refl
        | inr refused ↦ rw refused refl
      ]

      pub text_understood : (understood s text ≡ Ok (compiled_to parameters len)) ⊎ (understood s text ≡ Err Mismatch)
      unfolding understood
      text_understood = elim text_compiled [
        | inl known ↦ inl (rw known refl)
        | inr refused ↦ inr (rw refused refl)
      ]
