-- How a column of the one table of FROM is read.
use Rattle.std.proofs.Common.{◌≡◌, refl, Ok, List, ℕ, suc, ◌-◌, Bool, [], ◌∷◌, None, Some, true, slice_get, nat_lt}
use Rattle.sqlite_sql.specs.Term.{col}
use Rattle.sqlite_schema.specs.declared.schema.Schema.{Schema}
use Rattle.sqlite_schema.specs.declared.schema.Table.{Table}
use Rattle.sqlite_schema.specs.declared.schema.Column.{Column}
use Rattle.sqlite_schema.specs.Names.{column_named, place_of}
use Rattle.sqlite_resolve.specs.declared.scope.Bound.{Bound}
use Rattle.sqlite_resolve.specs.declared.scope.Output.{Output}
use Rattle.sqlite_resolve.specs.declared.scope.Found.TheVariants as found
use Rattle.sqlite_resolve.specs.declared.state.State.{State}
use Rattle.sqlite_resolve.specs.Lowering.{nothing, spend, begin, finish}
use Rattle.sqlite_resolve.specs.Scope.{Context, Name, find, in_level, only, hit, column_in, column, column_at, term_of, is_among, declared}
use Rattle.sqlite_resolve.specs.Expr.{lower_to, node, opened, passes}
use Rattle.sqlite_resolve.specs.declared.state.Carried.{Carried}
use Rattle.sql_tables.specs.{column_expr, ast_views}

abbrev pub the_bound : Name → ℕ → Bound
the_bound name at = record { name = name; table = at; slot = 1; shared = [] }

abbrev pub context_of : Schema → Name → ℕ → List Output → Bool → Context
context_of s name at outs grouped = record { schema = s; levels = record { tables = the_bound name at ∷ []; shown = outs } ∷ []; may_aggregate = grouped; may_alias = true }

-- a state in which no step and no aggregate was met
abbrev pub state_at : ℕ → ℕ → Carried → State
state_at next budget last = record { next = next; steps = []; aggregates = []; budget = budget; written = None; last = last }

module _ (s : Schema) (table : Table) (name : Name) (at : ℕ) (is : slice_get s.tables at ≡ Some table) where
  pub find_column : (outs : List Output) (grouped : Bool) (column : Name) (k : ℕ) → column_named table column ≡ Some k → find (context_of s name at outs grouped) None column ≡ Ok (found.Column 1 at k)
  unfolding find in_level only hit column_in is_among
  find_column outs grouped column k named = rw (is, named) refl

  pub column_found : (k : ℕ) (c : Column) → slice_get table.columns k ≡ Some c → column_at s 1 at k ≡ Ok (col 1 (place_of table k), declared table k c)
  unfolding column_at
  column_found k c got = rw (is, got) refl

  pub term_of_column : (outs : List Output) (grouped : Bool) (k : ℕ) (c : Column) (st : State) → slice_get table.columns k ≡ Some c
      → term_of (context_of s name at outs grouped) (found.Column 1 at k) st ≡ Ok (col 1 (place_of table k), record st { last = declared table k c })
  unfolding term_of
  term_of_column outs grouped k c st got = rw (column_found k c got) refl

  pub column_read : (outs : List Output) (grouped : Bool) (column : Name) (k : ℕ) (c : Column) (st : State) → column_named table column ≡ Some k → slice_get table.columns k ≡ Some c
      → Rattle.sqlite_resolve.specs.Scope.column (context_of s name at outs grouped) None column st ≡ Ok (col 1 (place_of table k), record st { last = declared table k c })
  unfolding Rattle.sqlite_resolve.specs.Scope.column
  column_read outs grouped column k c st named got = rw (find_column outs grouped column k named) (term_of_column outs grouped k c st got)

  pub lower_column : (outs : List Output) (grouped : Bool) (column : Name) (k : ℕ) (c : Column) (next budget : ℕ) (last : Carried) → column_named table column ≡ Some k → slice_get table.columns k ≡ Some c
      → nat_lt 1 budget ≡ true → (depth : ℕ) → lower_to (suc depth) (context_of s name at outs grouped) (column_expr column) (state_at next budget last) ≡ Ok (col 1 (place_of table k), state_at next (budget - 1) (declared table k c))
  unfolding lower_to node opened spend begin finish passes ast_views
  lower_column outs grouped column k c next budget last named got enough depth = rw (enough, column_read outs grouped column k c (state_at next (budget - 1) nothing) named got) refl
