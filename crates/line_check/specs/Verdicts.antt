-- The verdict on a line.
use Rattle.std.specs.Prelude.{ℕ, ◌==◌, List, Bool, true, length, if◌then◌else◌, Option, Some, None, Result, Ok, Err}
use Rattle.plant_base.specs.{Command}
use Rattle.plant_json_in.specs.{FormatError, format_error_is_reported}
use Rattle.plant_text.specs.{line_says, Line}
use Rattle.plant_text.specs.declared.read.Line.TheVariants as L
use Rattle.plant_text_checks.specs.{command_error_of, CommandError}
use Rattle.plant_text_checks.specs.declared.reason.Reason.TheVariants as reason
use Rattle.line_check.specs.declared.judge.Verdict.{Verdict}
use Rattle.line_check.specs.declared.judge.Verdict.TheVariants as verdict

abbrev pub verdict_without : Option CommandError → Verdict
verdict_without None = verdict.Command
verdict_without (Some m) = verdict.Bad (reason.Command m)

-- a command is bad where the desk refuses it as BadForm whatever its state
abbrev pub command_verdict : Command → Verdict
command_verdict body = verdict_without (command_error_of body)

-- a check is a question, be its command one or none
abbrev pub verdict_where : Result Line FormatError → Verdict
verdict_where (Ok (L.Command c)) = command_verdict c.body
verdict_where (Ok (L.Question q)) = verdict.Question
verdict_where (Ok (L.Check c)) = verdict.Question
verdict_where (Err p) = verdict.Bad (reason.Shape p)

-- an empty line is nothing, and any other that says nothing is bad
unfoldable pub verdict_of : List ℕ → Verdict
verdict_of line = if length line == 0 then verdict.Nothing else verdict_where (line_says line)

-- of a bad line the verdict says what is wrong with it, and not only that it is bad
abbrev pub has_reason : Verdict → Bool
has_reason (verdict.Bad (reason.Shape p)) = format_error_is_reported p
has_reason _ = true
