-- SELECT of columns of one table, with a parameter for each of some columns, in an order, as it is written.
use Rattle.std.specs.Prelude.{ℕ, ◌+◌, List, [], ◌∷◌, map, length, Option, Some, None, false}
use Rattle.sqlite_ast.specs.declared.Expr.{Expr}
use Rattle.sqlite_ast.specs.declared.Shown.{Shown}
use Rattle.sqlite_ast.specs.declared.Shown.TheVariants.{One}
use Rattle.sqlite_ast.specs.declared.Origin.TheVariants.{Table}
use Rattle.sqlite_ast.specs.declared.Source.{Source, roll-Source}
use Rattle.sqlite_ast.specs.declared.Core.{Core, roll-Core}
use Rattle.sqlite_ast.specs.declared.Sort.{Sort, roll-Sort}
use Rattle.sqlite_ast.specs.declared.Select.{Select, roll-Select}
use Rattle.sqlite_ast.specs.declared.Statement.TheVariants as written
use Rattle.sqlite_syntax.specs.declared.statement.Parsed.{Parsed}
use Rattle.sqlite_ast.specs.declared.Expr.TheVariants as e
use Rattle.sqlite_ast.specs.declared.Binary.TheVariants as op
use Rattle.sql_tables.specs.{Name, column_expr, equals, equals_from, filter_of}

abbrev pub shown_column : Name → Shown
shown_column name = One (column_expr name) None name

abbrev pub sort_by : Name → Sort
sort_by name = roll-Sort (record { key = column_expr name; descending = false; nulls_first = None })

abbrev pub from_table : Name → Source
from_table table = roll-Source (record { is_left = false; origin = Table table; alias = None; on = None; using = [] })

abbrev pub core_of : Name → List Name → Option Expr → Core
core_of table columns test = roll-Core (record { distinct = false; shown = map shown_column columns; from = from_table table ∷ []; filter = test; group = []; having = None })

abbrev pub select_where : Name → List Name → Option Expr → List Name → Option Expr → Select
select_where table columns test order limit = roll-Select (record { with = []; first = core_of table columns test; others = []; order = map sort_by order; limit = limit; offset = None })

abbrev pub select_of : Name → List Name → List Name → List Name → Select
select_of table columns given order = select_where table columns (filter_of given) order None

-- name > ?n
abbrev pub greater : Name → ℕ → Expr
greater name n = e.Binary op.Gt (column_expr name) (e.Parameter n)

-- a = ?1 AND .. AND above > ?n
abbrev pub filter_after : List Name → Name → Option Expr
filter_after [] cursor = Some (greater cursor 1)
filter_after (name ∷ more) cursor = Some (e.Binary op.And (equals_from (equals name 1) 2 more) (greater cursor (length more + 2)))

-- LIMIT ?n
abbrev pub up_to : ℕ → Option Expr
up_to n = Some (e.Parameter n)

-- one statement, which fills a text of this length
abbrev pub parsed_as : Select → List Name → ℕ → Parsed
parsed_as select parameters len = record { statement = written.Select select; names = parameters; formats = []; start = 0; end = len; tail = len }
