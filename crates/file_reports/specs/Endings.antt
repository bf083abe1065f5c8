-- How a check of a desk's file ends.
use Rattle.std.specs.Prelude.{ℕ, Bool, List, [], codes, Option, Result, Ok, Err}
use Rattle.std.specs.Io.KnownBytes.{Appends}
use Rattle.plant_text.specs.{AppendsPrefix}
use Rattle.file_reports.specs.Outcomes.{outcome_status, IsOutcomeText}
use Rattle.file_reports.specs.declared.ending.ReportError.{ReportError}
use Rattle.file_reports.specs.declared.ending.ReportError.TheVariants as report_error
use Rattle.file_reports.specs.declared.outcome.CheckOutcome.{CheckOutcome}

-- what is written to standard error, without its LF
abbrev pub report_error_text : ReportError → List ℕ
report_error_text report_error.Write = codes "fault: write"
report_error_text report_error.Memory = codes "fault: memory"

-- the exit status, which is that of the outcome where this was reported whole
abbrev pub status_of : CheckOutcome → Result (Unit {0}) ReportError → ℕ
status_of o (Ok u) = outcome_status o
status_of o (Err report_error.Write) = 3
status_of o (Err report_error.Memory) = 4

-- What was written where the outcome isn't reported whole: a front of its text, where the writer failed; and nothing, where there was no memory.
abbrev pub EndsEarly : Bool → CheckOutcome → ReportError → Option (List ℕ) → Option (List ℕ) → Type 0
EndsEarly json o report_error.Write old new = (text : List ℕ) × IsOutcomeText json o text × AppendsPrefix old new text
EndsEarly json o report_error.Memory old new = Appends old new []
