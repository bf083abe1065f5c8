-- How SELECT of columns of one table is resolved, whatever else the schema has.
use Rattle.std.proofs.Common.{◌≡◌, refl, ◌∙◌, Ok, List, ℕ, ◌-◌, ◌<◌, Bool, [], ◌∷◌, ◌++◌, map, None, Some, Option, true, false, slice_get, arith, nat_lt, length, append-nil, append_assoc}
use Rattle.sqlite_sql.specs.Term.{Term, col}
use Rattle.sqlite_schema.specs.declared.schema.Schema.{Schema}
use Rattle.sqlite_schema.specs.declared.schema.Table.{Table}
use Rattle.sqlite_schema.specs.Names.{column_named, table_named, place_of}
use Rattle.sqlite_ast.specs.declared.Expr.{Expr}
use Rattle.sqlite_ast.specs.declared.Expr.TheViews.{out-Core, out-roll-Core}
use Rattle.sqlite_draft.specs.declared.join.Step.TheVariants.{Inner}
use Rattle.sqlite_resolve.specs.declared.scope.Output.{Output}
use Rattle.sqlite_resolve.specs.declared.scope.Bound.{Bound}
use Rattle.sqlite_resolve.specs.declared.state.Carried.{Carried}
use Rattle.sqlite_resolve.specs.Lowering.{take_slot}
use Rattle.sqlite_resolve.specs.Scope.{Name, declared}
use Rattle.sqlite_resolve.specs.Expr.{lower_to}
use Rattle.sqlite_resolve.specs.Select.{outermost}
use Rattle.sqlite_resolve.specs.Body as body
use Rattle.sqlite_resolve.specs.Body.{table_in, bound, bounds, heading, is_column, shown, outputs, result, tests, shared, inner_join, join, joins, matching}
use Rattle.sql_tables.specs.{column_expr, ast_views}
use Rattle.sql_queries.specs.{shown_column, from_table, core_of}
use Rattle.sql_tables.proofs.WhereGiven.{Entry, AreColumns}
use Rattle.sql_tables.proofs.ColumnIsRead.{the_bound, context_of, state_at, find_column, lower_column}

abbrev pub names_of : List Entry → List Name
names_of = map (λ (e : Entry). e.name)

abbrev pub output_of : Table → Entry → Output
output_of table e = record { name = e.column.name; is_alias = false; is_column = true; term = col 1 (place_of table e.at); carried = declared table e.at e.column }

abbrev pub last_after : Table → Carried → List Entry → Carried
last_after table last [] = last
last_after table last (e ∷ es) = last_after table (declared table e.at e.column) es

abbrev pub budget_after : ℕ → List Entry → ℕ
budget_after budget [] = budget
budget_after budget (e ∷ es) = budget_after (budget - 1) es

pub core_opens : (table : Name) (columns : List Name) (test : Option Expr)
    → out-Core (core_of table columns test) ≡ record { distinct = false; shown = map shown_column columns; from = from_table table ∷ []; filter = test; group = []; having = None }
core_opens table columns test = out-roll-Core _

pub enough_for : (budget : ℕ) (e : Entry) (es : List Entry) → length (e ∷ es) < budget → nat_lt 1 budget ≡ true
enough_for budget e es h = grind (arith)

module _ (s : Schema) (table : Table) (name : Name) (at : ℕ) (is : slice_get s.tables at ≡ Some table) where
  heading_found : (outs : List Output) (grouped : Bool) (e : Entry) → column_named table e.name ≡ Some e.at → slice_get table.columns e.at ≡ Some e.column
      → heading (context_of s name at outs grouped) (column_expr e.name) e.name ≡ e.column.name
  unfolding heading body.declared ast_views
  heading_found outs grouped e named got = rw (find_column s table name at is outs grouped e.name e.at named, is, got) refl

  shown_read : (outs done : List Output) (grouped : Bool) (tables : List Bound) (e : Entry) (next budget : ℕ) (last : Carried) → column_named table e.name ≡ Some e.at → slice_get table.columns e.at ≡ Some e.column
      → nat_lt 1 budget ≡ true
      → shown (lower_to 700) (context_of s name at outs grouped) tables done (shown_column e.name) (state_at next budget last)
      ≡ Ok (done ++ output_of table e ∷ [], state_at next (budget - 1) (declared table e.at e.column))
  unfolding shown is_column ast_views
  shown_read outs done grouped tables e next budget last named got enough =
      rw (lower_column s table name at is outs grouped e.name e.at e.column next budget last named got enough 699, heading_found outs grouped e named got) refl

  outputs_read : (outs done : List Output) (grouped : Bool) (tables : List Bound) (es : List Entry) (next budget : ℕ) (last : Carried) → AreColumns table es → length es < budget
      → body.outputs_from (lower_to 700) (context_of s name at outs grouped) tables done (map shown_column (names_of es)) (state_at next budget last)
      ≡ Ok (done ++ map (output_of table) es, state_at next (budget_after budget es) (last_after table last es))
  outputs_read outs done grouped tables [] next budget last are enough = rw append-nil refl
  outputs_read outs done grouped tables (e ∷ es) next budget last are enough =
      rw (shown_read outs done grouped tables e next budget last are.0 are.1 (enough_for budget e es enough))
      (outputs_read outs (done ++ output_of table e ∷ []) grouped tables es next (budget - 1) (declared table e.at e.column) are.2 (omega arith) ∙ rw append_assoc refl)

  pub result_read : (test : Option Expr) (es : List Entry) (budget : ℕ) (last : Carried) → AreColumns table es → length es < budget
      → result (lower_to 700) (outermost s) (record { tables = the_bound name at ∷ []; shown = [] }) (core_of name (names_of es) test) (state_at 2 budget last)
      ≡ Ok (map (output_of table) es, state_at 2 (budget_after budget es) (last_after table last es))
  unfolding result outputs
  result_read test es budget last are enough = rw (core_opens name (names_of es) test) (outputs_read [] [] true (the_bound name at ∷ []) es 2 budget last are enough)

  pub bounds_read : (budget : ℕ) (last : Carried) → table_named s name ≡ Some at → bounds s (from_table name ∷ []) (state_at 1 budget last) ≡ Ok (the_bound name at ∷ [], state_at 2 budget last)
  unfolding bounds bound take_slot table_in ast_views
  bounds_read budget last named = rw named refl

  joins_read : (outs : List Output) (budget : ℕ) (last : Carried)
      → joins (lower_to 700) (context_of s name at outs false) (the_bound name at ∷ []) (from_table name ∷ []) (state_at 2 budget last)
      ≡ Ok (record { steps = Inner table.tree ∷ []; filter = [] }, state_at 2 budget last)
  unfolding joins join shared inner_join tests ast_views
  joins_read outs budget last = rw is refl

  pub matching_read : (columns : List Name) (test : Option Expr) (outs : List Output) (budget after : ℕ) (last later : Carried) (terms : List Term)
      → tests (lower_to 700) (context_of s name at outs false) [] test (state_at 2 budget last) ≡ Ok (terms, state_at 2 after later)
      → matching (lower_to 700) (outermost s) (record { tables = the_bound name at ∷ []; shown = outs }) (core_of name columns test) (state_at 2 budget last)
      ≡ Ok (record { steps = Inner table.tree ∷ []; filter = terms }, state_at 2 after later)
  unfolding matching
  matching_read columns test outs budget after last later terms tested = rw (core_opens name columns test, joins_read outs budget last, tested) refl
