-- No number of a report has a fraction.
use Rattle.std.proofs.Common.{◌≡◌, ℕ, Bool, false, List, [], ◌∷◌, ◌++◌, Option, Some, None, refl, ◌||◌}
use Rattle.serde_json.specs.Data.{Data}
use Rattle.serde_json.specs.View.{items_of}
use Rattle.serde_json.specs.Written.{has_float, items_have_float}
use Rattle.plant_check_rules.specs.{Rule}
use Rattle.plant_check.specs.{Column, Finding, RowKey, RowFault, Tested}
use Rattle.plant_requirements.specs.declared.fault.RowKey.TheVariants as key
use Rattle.plant_check.specs.declared.finding.Findings.{Findings}
use Rattle.plant_check.specs.declared.finding.Findings.TheVariants as findings
use Rattle.file_reports.specs.{key_data, column_data, row_data, broken_data, found_data, each_data, findings_data, file_report_data, index_data, taken_data, sentence_data, open_error_data, outcome_data, found_in}
use Rattle.file_reports.specs.declared.barred.DeskIndex.{DeskIndex}
use Rattle.file_reports.specs.declared.open_error.OpenError.{OpenError}
use Rattle.file_reports.specs.declared.outcome.CheckOutcome.{CheckOutcome}
use Rattle.file_reports.specs.declared.file_report.FileReport.{FileReport}
use Rattle.file_reports.specs.declared.file_report.FileReport.TheVariants as file_report

neither : (a b : Bool) → a ≡ false → b ≡ false → (a || b) ≡ false
neither a b e f = rw (e, f) refl

of_key : (k : RowKey) → has_float (key_data k) ≡ false
of_key (key.Id id) = refl
of_key _ = refl

of_column : (c : Option Column) → has_float (column_data c) ≡ false
of_column None = refl
of_column (Some c) = refl

of_row : (reported : Option RowFault) → has_float (row_data reported) ≡ false
of_row None = refl
of_row (Some f) = rw (of_column f.column, of_key f.key) refl

of_broken : (r : Rule) (reported : Option RowFault) → has_float (broken_data r reported) ≡ false
of_broken r reported = rw (of_row reported) refl

behind : (o : Option Finding) (ds : List Data) → items_have_float (items_of ds) ≡ false → items_have_float (items_of (found_data o ++ ds)) ≡ false
behind None ds e = e
behind (Some f) ds e = rw (of_broken f.rule f.row, e) refl

of_each : (t : Tested) (rs : List Rule) → items_have_float (items_of (each_data t rs)) ≡ false
of_each t [] = refl
of_each t (r ∷ rs) = behind (found_in t r) (each_data t rs) (of_each t rs)

of_findings : (found : Findings) → has_float (findings_data found) ≡ false
of_findings findings.NoMeta = refl
of_findings (findings.Values reported) = rw (of_row reported) refl
of_findings (findings.Rows t) = of_each t t.rules.items

of_file_report : (s : Option FileReport) → has_float (file_report_data s) ≡ false
of_file_report None = refl
of_file_report (Some (file_report.Nothing barred)) = refl
of_file_report (Some (file_report.Newer n)) = refl
of_file_report (Some (file_report.Lacking None)) = refl
of_file_report (Some (file_report.Lacking (Some b))) = refl
of_file_report (Some (file_report.Desk summary barred found)) = rw (of_findings found) refl

of_index : (i : Option DeskIndex) → has_float (index_data i) ≡ false
of_index None = refl
of_index (Some i) = refl

of_taken : (s : Option FileReport) → has_float (taken_data s) ≡ false
of_taken None = refl
of_taken (Some (file_report.Nothing barred)) = of_index barred
of_taken (Some (file_report.Newer n)) = refl
of_taken (Some (file_report.Lacking b)) = refl
of_taken (Some (file_report.Desk summary barred found)) = of_index barred

of_sentence : (reported : Option (List ℕ)) → has_float (sentence_data reported) ≡ false
of_sentence None = refl
of_sentence (Some text) = refl

of_open_error : (o : Option OpenError) (reported : Option (List ℕ)) → has_float (open_error_data o reported) ≡ false
of_open_error None reported = refl
of_open_error (Some o) reported = rw (of_sentence reported) refl

pub of_outcome : (o : CheckOutcome) (reported : Option (List ℕ)) → has_float (outcome_data o reported) ≡ false
of_outcome o reported = rw (of_file_report o.file_report, of_open_error o.open_error reported, of_taken o.file_report) refl
