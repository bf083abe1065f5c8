-- The outcome of a check, and its exit status.
use Rattle.std.specs.Prelude.{◌≡◌, ℕ, List, [], ◌∷◌, ◌++◌, codes, Bool, true, false, Option, Some, None, Result, Ok, Err}
use Rattle.std.specs.Io.KnownBytes.{Appends}
use Rattle.serde_json.specs.Written.{compact_text}
use Rattle.plant_text.specs.{with_lf}
use Rattle.plant_check_rules.specs.{Rule}
use Rattle.plant_check.specs.declared.finding.Findings.{Findings}
use Rattle.plant_check.specs.declared.finding.Findings.TheVariants as findings
use Rattle.file_reports.specs.Objects.{outcome_data}
use Rattle.file_reports.specs.OpenErrors.{IsErrorText, HasWordsOf, error_of}
use Rattle.file_reports.specs.Reports.{file_report_text, open_error_text}
use Rattle.file_reports.specs.declared.barred.DeskIndex.{DeskIndex}
use Rattle.file_reports.specs.declared.open_error.OpenError.{OpenError}
use Rattle.file_reports.specs.declared.open_error.OpenError.TheVariants as open_error
use Rattle.file_reports.specs.declared.outcome.CheckOutcome.{CheckOutcome}
use Rattle.file_reports.specs.declared.file_report.FileReport.{FileReport}
use Rattle.file_reports.specs.declared.file_report.FileReport.TheVariants as file_report

-- why a file doesn't open, or what it holds and what else keeps the desk from it
abbrev pub outcome_of : Result FileReport OpenError → Option OpenError → CheckOutcome
outcome_of (Err o) hindered = record { open_error = Some o; file_report = None }
outcome_of (Ok s) hindered = record { open_error = hindered; file_report = Some s }

-- ---- the exit status

abbrev pub status_by : List Rule → ℕ
status_by [] = 0
status_by (r ∷ rs) = 3

abbrev pub findings_status : Findings → ℕ
findings_status findings.NoMeta = 3
findings_status (findings.Values reported) = 3
findings_status (findings.Rows t) = status_by t.rules.items

-- this, where no index is barred
abbrev pub status_unless : Option DeskIndex → ℕ → ℕ
status_unless None status = status
status_unless (Some i) status = 3

abbrev pub file_report_status : FileReport → ℕ
file_report_status (file_report.Nothing barred) = status_unless barred 1
file_report_status (file_report.Newer n) = 3
file_report_status (file_report.Lacking b) = 3
file_report_status (file_report.Desk summary barred found) = status_unless barred (findings_status found)

abbrev pub held_status : Option FileReport → ℕ
held_status None = 3
held_status (Some s) = file_report_status s

abbrev pub open_error_status : OpenError → ℕ
open_error_status open_error.Memory = 4
open_error_status _ = 3

abbrev pub status_by_open_error : Option OpenError → Option FileReport → ℕ
status_by_open_error None held = held_status held
status_by_open_error (Some o) held = open_error_status o

abbrev pub outcome_status : CheckOutcome → ℕ
outcome_status o = status_by_open_error o.open_error o.file_report

-- ---- sentences

-- that it opens, or why it doesn't and what to do
abbrev pub opening_text : Option OpenError → List ℕ
opening_text None = with_lf (codes "The file opens.")
opening_text (Some o) = with_lf (open_error_text o)

abbrev pub held_text : Option FileReport → List ℕ
held_text None = []
held_text (Some s) = file_report_text s

-- what goes before: where the file doesn't open, that it doesn't
abbrev pub IsFirstSentence : Option OpenError → List ℕ → Type 0
IsFirstSentence None sentence = sentence ≡ []
IsFirstSentence (Some o) sentence = (text : List ℕ) × IsErrorText (error_of o) text × (sentence ≡ with_lf text)

-- whether the file opens, and why not, was written after what there was
abbrev pub WritesOpening : Option OpenError → Option (List ℕ) → Option (List ℕ) → Type 0
WritesOpening o old new = (sentence : List ℕ) × IsFirstSentence o sentence × Appends old new (sentence ++ opening_text o)

-- and then what it holds
abbrev pub WritesSentences : CheckOutcome → Option (List ℕ) → Option (List ℕ) → Type 0
WritesSentences o old new = (sentence : List ℕ) × IsFirstSentence o.open_error sentence × Appends old new (sentence ++ opening_text o.open_error ++ held_text o.file_report)

-- the same as one object, in a line
abbrev pub WritesObject : CheckOutcome → Option (List ℕ) → Option (List ℕ) → Type 0
WritesObject o old new = (words : Option (List ℕ)) × HasWordsOf o.open_error words × Appends old new (with_lf (compact_text (outcome_data o words)))

-- ---- the text

-- the text in sentences
abbrev pub IsInSentences : CheckOutcome → List ℕ → Type 0
IsInSentences o text = (sentence : List ℕ) × IsFirstSentence o.open_error sentence × (text ≡ sentence ++ opening_text o.open_error ++ held_text o.file_report)

-- the text of the object
abbrev pub IsInJson : CheckOutcome → List ℕ → Type 0
IsInJson o text = (words : Option (List ℕ)) × HasWordsOf o.open_error words × (text ≡ with_lf (compact_text (outcome_data o words)))

-- the one or the other
abbrev pub IsOutcomeText : Bool → CheckOutcome → List ℕ → Type 0
IsOutcomeText true o text = IsInJson o text
IsOutcomeText false o text = IsInSentences o text

-- it was written whole after what there was
abbrev pub WritesOutcome : Bool → CheckOutcome → Option (List ℕ) → Option (List ℕ) → Type 0
WritesOutcome json o old new = (text : List ℕ) × IsOutcomeText json o text × Appends old new text
