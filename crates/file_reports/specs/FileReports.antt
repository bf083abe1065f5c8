-- What an opened store holds of a desk.
use Rattle.std.specs.Prelude.{◌≡◌, ◌<◌, ◌≤◌, ℕ, ℤ, pos, All, length, Option, Some, None}
use Rattle.std.specs.Option.{option_map_or}
use Rattle.sqlite.specs.Effect.{Database}
use Rattle.plant_base.specs.{newest_schema, Meta}
use Rattle.sql_tables.specs.{AreFree, IsFree}
use Rattle.plant_tables.specs.{desk_table_defs}
use Rattle.plant_tables_columns.specs.{only_meta}
use Rattle.plant_tables.specs.{AreLoaded, contents_loaded, IsVersion, HasTablesOf, FoundTables, Loaded}
use Rattle.plant_tables.specs.declared.finding.FoundTables.TheVariants as tables
use Rattle.plant_check_rules.specs.{IsDamaged, Rule}
use Rattle.plant_check_rules.specs.declared.rule.Rule.TheVariants as rule
use Rattle.plant_check.specs.{AreFindingsOf, first_rule}
use Rattle.plant_check.specs.declared.finding.Findings.{Findings}
use Rattle.file_reports.specs.Barred.{barred_index}
use Rattle.file_reports.specs.declared.barred.DeskIndex.{DeskIndex}
use Rattle.file_reports.specs.declared.file_report.Held.{Held}
use Rattle.file_reports.specs.declared.file_report.Held.TheVariants as held
use Rattle.file_reports.specs.declared.file_report.FileSummary.{FileSummary}
use Rattle.file_reports.specs.declared.file_report.FileReport.{FileReport}
use Rattle.file_reports.specs.declared.file_report.FileReport.TheVariants as file_report

-- ---- what is held

-- there is something of the desk, of a version that is known, whose tables are declared as their definitions say, these are all of its rows, and this is
-- the first index that can't be made as they are migrated
pub record HoldsRows (db : Database) (x : Loaded) (barred : Option DeskIndex) : Type 0 where
  pub version : ℕ
  pub taken : ¬ All (IsFree db.schema) desk_table_defs
  pub reported : IsVersion db (pos version)
  pub known : version ≤ newest_schema
  pub whole : HasTablesOf version db.schema
  pub loaded : AreLoaded version db x
  pub bars : barred ≡ barred_index db.schema version

-- what is said of a database is so: its names are free for the desk's tables; it has those of a later version; they break the first
-- rule, before a row is read; or these are all of their rows
abbrev pub IsHeldIn : Database → Held → Type 0
IsHeldIn db (held.Nothing barred) = AreFree desk_table_defs db.schema × (barred ≡ barred_index db.schema 0)
IsHeldIn db (held.Newer n) = IsVersion db (pos n) × (newest_schema < n)
IsHeldIn db held.Lacking = IsDamaged db rule.Tables
IsHeldIn db (held.Tables x barred) = HoldsRows db x barred

-- the same where table meta has this schema, as was read before: it is later than the newest; its tables aren't as declared; or these are
-- all of their rows
abbrev pub IsReadAt : Database → ℕ → Held → Type 0
IsReadAt db schema (held.Nothing barred) = ⊥
IsReadAt db schema (held.Newer n) = (n ≡ schema) × (newest_schema < n)
IsReadAt db schema held.Lacking = (schema ≤ newest_schema) × ¬ HasTablesOf schema db.schema
IsReadAt db schema (held.Tables x barred) = (schema ≤ newest_schema) × HasTablesOf schema db.schema × AreLoaded schema db x × (barred ≡ barred_index db.schema schema)

-- the same of a version
abbrev pub IsReadAs : Database → ℤ → Held → Type 0
IsReadAs db v h = (schema : ℕ) × (v ≡ pos schema) × IsReadAt db schema h

-- the same where this was found of the tables
abbrev pub IsHeldBy : Database → FoundTables → Held → Type 0
IsHeldBy db tables.Nothing h = h ≡ held.Nothing (barred_index db.schema 0)
IsHeldBy db tables.NoMeta h = h ≡ held.Lacking
IsHeldBy db (tables.Version v) h = IsReadAs db v h

-- ---- the report

abbrev pub summary_of : Option Meta → Loaded → FileSummary
summary_of meta x = record {
  schema = option_map_or (λ m. m.schema) meta 0;
  seq = option_map_or (λ m. m.position.seq) meta 0;
  at = option_map_or (λ m. m.position.at) meta 0;
  orders = length (contents_loaded x 5);
  batches = length (contents_loaded x 6);
  lots = length (contents_loaded x 9);
  movements = length (contents_loaded x 11);
}

-- the position of the desk of these rows, and each rule that they break
pub record IsDesk (x : Loaded) (summary : FileSummary) (found : Findings) : Type 0 where
  pub represents : summary ≡ summary_of (only_meta (contents_loaded x 0)) x
  pub breaks : AreFindingsOf x found

abbrev pub ReportsDesk : Loaded → Option DeskIndex → FileReport → Type 0
ReportsDesk x bars (file_report.Nothing barred) = ⊥
ReportsDesk x bars (file_report.Newer n) = ⊥
ReportsDesk x bars (file_report.Lacking b) = ⊥
ReportsDesk x bars (file_report.Desk summary barred found) = IsDesk x summary found × (barred ≡ bars)

-- this is the report on what is held
abbrev pub IsReportOf : Held → FileReport → Type 0
IsReportOf (held.Nothing barred) s = s ≡ file_report.Nothing barred
IsReportOf (held.Newer n) s = s ≡ file_report.Newer n
IsReportOf held.Lacking s = s ≡ file_report.Lacking None
IsReportOf (held.Tables x barred) s = ReportsDesk x barred s

-- the database has such rows
pub record HoldsDesk (db : Database) (summary : FileSummary) (barred : Option DeskIndex) (found : Findings) : Type 0 where
  pub loaded : Loaded
  pub rows : HoldsRows db loaded barred
  pub reported : IsDesk loaded summary found

-- the report on a database is right
abbrev pub IsFileReportOf : Database → FileReport → Type 0
IsFileReportOf db (file_report.Nothing barred) = AreFree desk_table_defs db.schema × (barred ≡ barred_index db.schema 0)
IsFileReportOf db (file_report.Newer n) = IsVersion db (pos n) × (newest_schema < n)
IsFileReportOf db (file_report.Lacking b) = IsDamaged db rule.Tables
IsFileReportOf db (file_report.Desk summary barred found) = HoldsDesk db summary barred found

-- the first rule of the report
abbrev pub first_reported : FileReport → Option Rule
first_reported (file_report.Nothing barred) = None
first_reported (file_report.Newer n) = None
first_reported (file_report.Lacking b) = Some rule.Tables
first_reported (file_report.Desk summary barred found) = first_rule found
