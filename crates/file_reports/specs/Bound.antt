-- What somebody else gave a table of the desk, so that the table isn't declared as its definition says.
use Rattle.std.specs.Prelude.{ℕ, Bool, false, ◌&&◌, List, [], ◌∷◌, Option, Some, None, if◌then◌else◌}
use Rattle.sqlite_schema.specs.Names.{same_name}
use Rattle.sqlite_schema.specs.declared.schema.Schema.{Schema}
use Rattle.sqlite_schema.specs.declared.schema.View.{View}
use Rattle.plant_base.specs.{is_text}
use Rattle.plant_check.specs.{all_tables, table_name, Table}
use Rattle.file_reports.specs.declared.bound.Binder.{Binder}
use Rattle.file_reports.specs.declared.file_report.FileReport.{FileReport}
use Rattle.file_reports.specs.declared.file_report.FileReport.TheVariants as file_report

abbrev pub is_of : Option (List ℕ) → Table → Bool
is_of None t = false
is_of (Some name) t = same_name name (table_name t)

-- whether the object is a trigger of this table, or an index on it that the desk can't keep
abbrev pub is_on : View → Table → Bool
is_on v t = v.binds && is_of v.foreign t

-- the first of the tables that the object is on
abbrev pub table_of : View → List Table → Option Table
table_of v [] = None
table_of v (t ∷ ts) = if is_on v t then Some t else table_of v ts

abbrev pub named : List ℕ → Option Table → Option Binder
named name None = None
named name (Some t) = if is_text name then Some (record { name = name; table = t }) else None

-- the object, where it is on a table of the desk and its name is a text
abbrev pub binder_of : View → Option Binder
binder_of v = named v.name (table_of v all_tables)

abbrev pub or_binder : Option Binder → Option Binder → Option Binder
or_binder None rest = rest
or_binder (Some b) rest = Some b

-- the first of the objects that is on a table of the desk
abbrev pub first_binder : List View → Option Binder
first_binder [] = None
first_binder (v ∷ vs) = or_binder (binder_of v) (first_binder vs)

-- the report on a store with this schema: where its tables aren't as declared, also the first such object
abbrev pub with_binder : Schema → FileReport → FileReport
with_binder schema (file_report.Nothing barred) = file_report.Nothing barred
with_binder schema (file_report.Newer n) = file_report.Newer n
with_binder schema (file_report.Lacking b) = file_report.Lacking (first_binder schema.views)
with_binder schema (file_report.Desk summary barred found) = file_report.Desk summary barred found
