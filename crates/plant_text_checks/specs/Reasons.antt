-- The words of what is of bad form.
use Rattle.std.specs.Prelude.{ℕ, List}
use Rattle.plant_json_in.specs.{format_error_text}
use Rattle.plant_text_checks.specs.CommandErrors.{command_error_text}
use Rattle.plant_text_checks.specs.declared.reason.Reason.{Reason}
use Rattle.plant_text_checks.specs.declared.reason.Reason.TheVariants as reason

-- why a line, or a command, is of bad form
abbrev pub reason_text : Reason → List ℕ
reason_text (reason.Shape p) = format_error_text p
reason_text (reason.Command m) = command_error_text m
