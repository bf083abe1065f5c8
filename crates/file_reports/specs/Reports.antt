-- The report on a file, in sentences.
use Rattle.std.specs.Prelude.{ℕ, List, [], ◌∷◌, ◌++◌, codes, decimal, Option, Some, None}
use Rattle.plant_text.specs.{with_lf}
use Rattle.plant_check_rules.specs.{rule_number, Rule}
use Rattle.plant_check_rules.specs.declared.rule.Rule.TheVariants as rule
use Rattle.plant_tables.specs.{rows_listed}
use Rattle.plant_check.specs.{rule_text, finding_of, fault_text, Finding, RowFault, Tested, table_name}
use Rattle.plant_check.specs.declared.finding.Findings.{Findings}
use Rattle.plant_check.specs.declared.finding.Findings.TheVariants as findings
use Rattle.file_reports.specs.Barred.{index_name}
use Rattle.file_reports.specs.OpenErrors.{cause_text, advice_text}
use Rattle.file_reports.specs.declared.barred.DeskIndex.{DeskIndex}
use Rattle.file_reports.specs.declared.bound.Binder.{Binder}
use Rattle.file_reports.specs.declared.open_error.OpenError.{OpenError}
use Rattle.file_reports.specs.declared.file_report.FileSummary.{FileSummary}
use Rattle.file_reports.specs.declared.file_report.FileReport.{FileReport}
use Rattle.file_reports.specs.declared.file_report.FileReport.TheVariants as file_report

abbrev pub rule_line : Rule → List ℕ
rule_line r = codes "Rule " ++ (decimal (rule_number r) ++ (codes " is broken: " ++ (rule_text r ++ codes ".")))

abbrev pub summary_text : FileSummary → List ℕ
summary_text s = codes "It holds a desk of schema " ++ decimal s.schema ++ codes " and " ++ decimal s.seq ++ codes " commands, the last at " ++ decimal s.at ++ codes "."

abbrev pub counts_text : FileSummary → List ℕ
counts_text s =
    codes "Orders: " ++ decimal s.orders ++ codes ", batches: " ++ decimal s.batches ++ codes ", lots: " ++ decimal s.lots
    ++ codes ", movements: " ++ decimal s.movements ++ codes "."

abbrev pub newer_text : ℕ → List ℕ
newer_text schema = codes "Its tables are of schema " ++ decimal schema ++ codes ", as a later program writes them: run that program."

abbrev pub row_text : Option RowFault → List ℕ
row_text None = []
row_text (Some f) = with_lf (fault_text f)

abbrev pub broken_text : Rule → Option RowFault → List ℕ
broken_text r reported = with_lf (rule_line r) ++ row_text reported

abbrev pub found_text : Option Finding → List ℕ
found_text None = []
found_text (Some f) = broken_text f.rule f.row

-- what is found of a rule in rows that were tested
abbrev pub found_in : Tested → Rule → Option Finding
found_in t r = finding_of r (rows_listed t.rows)

abbrev pub each_text : Tested → List Rule → List ℕ
each_text t [] = []
each_text t (r ∷ rs) = found_text (found_in t r) ++ each_text t rs

abbrev pub tested_text : Tested → List Rule → List ℕ
tested_text t [] = with_lf (codes "No rule is broken.")
tested_text t (r ∷ rs) = each_text t (r ∷ rs)

abbrev pub findings_text : Findings → List ℕ
findings_text findings.NoMeta = broken_text rule.Tables None
findings_text (findings.Values reported) = broken_text rule.Values reported
findings_text (findings.Rows t) = tested_text t t.rules.items

-- that something else bears the name of an index
abbrev pub index_text : DeskIndex → List ℕ
index_text i = codes "Something else has the name " ++ index_name i ++ codes ", which the desk needs for an index: give it another name with sqlite3."

abbrev pub barred_text : Option DeskIndex → List ℕ
barred_text None = []
barred_text (Some i) = with_lf (index_text i)

abbrev pub nothing_text : Option DeskIndex → List ℕ
nothing_text None = with_lf (codes "It holds no desk: the next word of the desk over it makes one.")
nothing_text (Some i) = with_lf (codes "It holds no desk, and none can be made in it.") ++ with_lf (index_text i)

-- what somebody else gave a table of the desk
abbrev pub binder_text : Binder → List ℕ
binder_text b =
    codes "table " ++ (table_name b.table ++ (codes ": somebody else's trigger or index " ++ (b.name ++ codes " keeps it from standing as it is declared: drop it with sqlite3.")))

abbrev pub bound_text : Option Binder → List ℕ
bound_text None = []
bound_text (Some b) = with_lf (binder_text b)

abbrev pub desk_text : FileSummary → List ℕ
desk_text s = with_lf (summary_text s) ++ with_lf (counts_text s)

abbrev pub file_report_text : FileReport → List ℕ
file_report_text (file_report.Nothing barred) = nothing_text barred
file_report_text (file_report.Newer schema) = with_lf (newer_text schema)
file_report_text (file_report.Lacking b) = with_lf (rule_line rule.Tables) ++ bound_text b
file_report_text (file_report.Desk summary barred found) = desk_text summary ++ (findings_text found ++ barred_text barred)

abbrev pub open_error_text : OpenError → List ℕ
open_error_text o = cause_text o ++ codes " " ++ advice_text o
