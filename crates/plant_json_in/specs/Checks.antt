-- Which objects ask what would become of a command, and what is wrong with the others.
use Rattle.std.specs.Prelude.{Bool, true, if◌then◌else◌, codes, Option, Some, None, is_some, Result, Ok, Err}
use Rattle.serde_json.specs.Data.{Data}
use Rattle.serde_json.specs.Find.{as_object, get}
use Rattle.plant_base.specs.{Envelope}
use Rattle.plant_json_in.specs.declared.members.Member.TheVariants as m
use Rattle.plant_json_in.specs.declared.format_errors.ShapeError.TheVariants as shape_error
use Rattle.plant_json_in.specs.declared.format_errors.FormatError.{FormatError}
use Rattle.plant_json_in.specs.Members.{name_of}
use Rattle.plant_json_in.specs.Tables.{check_members}
use Rattle.plant_json_in.specs.FormatErrors.{◌>>=◌, object, format_error_is_reported}
use Rattle.plant_json_in.specs.Fields.{exactly}
use Rattle.plant_json_in.specs.declared.format_errors.FormatError.TheVariants as format_error
use Rattle.plant_json_in.specs.Commands.{command_of}
use Rattle.plant_json_in.specs.declared.checks.ToCheck.{ToCheck}
use Rattle.plant_json_in.specs.declared.checks.ToCheck.TheVariants as to_check

-- what is checked where this was read as a command: it, or else why it is none
abbrev pub checked_as : Result Envelope FormatError → ToCheck
checked_as (Ok e) = to_check.Command e
checked_as (Err p) = to_check.BadForm p

-- the command that an object with `do` is, or its first problem; a question and a check lack `do`
abbrev pub command_among : Data → Result Envelope FormatError
command_among d =
    if is_some (get (codes "do") d) then command_of d else (
    if is_some (get (codes "ask") d) then Err (format_error.Object (shape_error.Missing m.Do)) else
    Err format_error.Neither)

-- the command that a value is, or why it is none
abbrev pub command_in : Data → Result Envelope FormatError
command_in d = if is_some (as_object d) then command_among d else Err (format_error.Object shape_error.NoObject)

-- what is to be checked of a value
abbrev pub checked_in : Data → ToCheck
checked_in d = checked_as (command_in d)

abbrev pub check_in : Option Data → Result ToCheck FormatError
check_in None = Err (format_error.Object (shape_error.Missing m.Command))
check_in (Some d) = Ok (checked_in d)

-- what the object asks to check, or its first problem; an object in it that is no command is no problem of the object's
abbrev pub check_of : Data → Result ToCheck FormatError
check_of d = object (exactly check_members d) >>= (λ fs. check_in (get (name_of m.Command) d))

-- where it is no command, its problem says what is wrong
abbrev pub has_reason : ToCheck → Bool
has_reason (to_check.Command e) = true
has_reason (to_check.BadForm p) = format_error_is_reported p
