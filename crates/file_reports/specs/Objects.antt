-- The report on a file, as one JSON object.
use Rattle.std.specs.Prelude.{ℕ, List, [], ◌∷◌, ◌++◌, codes, Option, Some, None, is_none}
use Rattle.serde_json.specs.Data.{Data, null, boolean, number, unsigned, string, array, object, member, no_members}
use Rattle.serde_json.specs.View.{items_of}
use Rattle.plant_check_rules.specs.{rule_number, Rule}
use Rattle.plant_check_rules.specs.declared.rule.Rule.TheVariants as rule
use Rattle.plant_check.specs.{rule_text, column_name, table_name, found_text, wanted_text, Column, Finding, RowKey, RowFault, Tested}
use Rattle.plant_requirements.specs.declared.fault.RowKey.TheVariants as key
use Rattle.plant_check.specs.declared.finding.Findings.{Findings}
use Rattle.plant_check.specs.declared.finding.Findings.TheVariants as findings
use Rattle.file_reports.specs.Barred.{index_name}
use Rattle.file_reports.specs.OpenErrors.{open_error_name, cause_text, advice_text}
use Rattle.file_reports.specs.Reports.{found_in}
use Rattle.file_reports.specs.declared.barred.DeskIndex.{DeskIndex}
use Rattle.file_reports.specs.declared.bound.Binder.{Binder}
use Rattle.file_reports.specs.declared.open_error.OpenError.{OpenError}
use Rattle.file_reports.specs.declared.outcome.CheckOutcome.{CheckOutcome}
use Rattle.file_reports.specs.declared.file_report.FileSummary.{FileSummary}
use Rattle.file_reports.specs.declared.file_report.FileReport.{FileReport}
use Rattle.file_reports.specs.declared.file_report.FileReport.TheVariants as file_report

abbrev pub count : ℕ → Data
count n = number (unsigned n)

abbrev pub list : List Data → Data
list ds = array (items_of ds)

-- ---- rows

-- the values of a key, in the order of its columns; or the position of the row
abbrev pub key_data : RowKey → Data
key_data (key.Id id) = list (string id ∷ [])
key_data (key.Number n) = list (count n ∷ [])
key_data (key.Ids a b) = list (string a ∷ string b ∷ [])
key_data (key.Numbers m n) = list (count m ∷ count n ∷ [])
key_data (key.IdNumber id n) = list (string id ∷ count n ∷ [])
key_data (key.IdNumbers id m n) = list (string id ∷ count m ∷ count n ∷ [])
key_data (key.NumberIds n a b) = list (count n ∷ string a ∷ string b ∷ [])
key_data (key.IdNumberId a n b) = list (string a ∷ count n ∷ string b ∷ [])
key_data (key.Place place) = object (member (codes "place") (count place) no_members)

abbrev pub column_data : Option Column → Data
column_data None = null
column_data (Some c) = string (column_name c)

abbrev pub row_data : Option RowFault → Data
row_data None = null
row_data (Some f) = object
    (member (codes "column") (column_data f.column)
    (member (codes "found") (string (found_text f.found))
    (member (codes "key") (key_data f.key)
    (member (codes "table") (string (table_name f.table))
    (member (codes "wanted") (string (wanted_text f.wanted)) no_members)))))

-- ---- rules

abbrev pub broken_data : Rule → Option RowFault → Data
broken_data r reported = object
    (member (codes "row") (row_data reported)
    (member (codes "rule") (count (rule_number r))
    (member (codes "says") (string (rule_text r)) no_members)))

abbrev pub found_data : Option Finding → List Data
found_data None = []
found_data (Some f) = broken_data f.rule f.row ∷ []

abbrev pub each_data : Tested → List Rule → List Data
each_data t [] = []
each_data t (r ∷ rs) = found_data (found_in t r) ++ each_data t rs

abbrev pub findings_data : Findings → Data
findings_data findings.NoMeta = list (broken_data rule.Tables None ∷ [])
findings_data (findings.Values reported) = list (broken_data rule.Values reported ∷ [])
findings_data (findings.Rows t) = list (each_data t t.rules.items)

-- ---- the desk

abbrev pub desk_data : FileSummary → Findings → Data
desk_data s found = object
    (member (codes "at") (count s.at)
    (member (codes "batches") (count s.batches)
    (member (codes "broken") (findings_data found)
    (member (codes "lots") (count s.lots)
    (member (codes "movements") (count s.movements)
    (member (codes "orders") (count s.orders)
    (member (codes "schema") (count s.schema)
    (member (codes "seq") (count s.seq) no_members))))))))

-- the name of what keeps a table from being as declared
abbrev pub bound_data : Option Binder → Data
bound_data None = null
bound_data (Some b) = string b.name

abbrev pub file_report_data : Option FileReport → Data
file_report_data None = null
file_report_data (Some (file_report.Nothing barred)) = null
file_report_data (Some (file_report.Newer n)) = object (member (codes "newer") (count n) no_members)
file_report_data (Some (file_report.Lacking b)) = object (member (codes "bound") (bound_data b) (member (codes "broken") (findings_data findings.NoMeta) no_members))
file_report_data (Some (file_report.Desk summary barred found)) = desk_data summary found

abbrev pub index_data : Option DeskIndex → Data
index_data None = null
index_data (Some i) = string (index_name i)

abbrev pub taken_data : Option FileReport → Data
taken_data None = null
taken_data (Some (file_report.Nothing barred)) = index_data barred
taken_data (Some (file_report.Newer n)) = null
taken_data (Some (file_report.Lacking b)) = null
taken_data (Some (file_report.Desk summary barred found)) = index_data barred

-- ---- the whole, with the toolkit's own sentence, where there is one

abbrev pub sentence_data : Option (List ℕ) → Data
sentence_data None = null
sentence_data (Some text) = string text

abbrev pub open_error_data : Option OpenError → Option (List ℕ) → Data
open_error_data None reported = null
open_error_data (Some o) reported = object
    (member (codes "advice") (string (advice_text o))
    (member (codes "cause") (string (open_error_name o))
    (member (codes "error") (sentence_data reported)
    (member (codes "says") (string (cause_text o)) no_members))))

abbrev pub outcome_data : CheckOutcome → Option (List ℕ) → Data
outcome_data o reported = object
    (member (codes "desk") (file_report_data o.file_report)
    (member (codes "obstacle") (open_error_data o.open_error reported)
    (member (codes "opens") (boolean (is_none o.open_error))
    (member (codes "taken") (taken_data o.file_report) no_members))))
