-- What a line says, and what is wrong with one that says nothing.
use Rattle.std.specs.Prelude.{◌≡◌, ⊤, ℕ, List, [], ◌∷◌, length, nat_lt, if◌then◌else◌, codes, Option, Some, None, option_and_then, is_some, Result, Ok, Err}
use Rattle.std.specs.Result.{result_ok}
use Rattle.std.specs.Str.{is_utf8}
use Rattle.serde_json.specs.Data.{Data}
use Rattle.serde_json.specs.Find.{get, as_object, as_str}
use Rattle.serde_json.specs.Read.{read}
use Rattle.plant_json_in.specs.declared.format_errors.ShapeError.TheVariants as shape_error
use Rattle.plant_json_in.specs.{Around, AskedKind, ReadFault, FormatError, NodeKind, QuestionKind, asked_kind, fields_of, node_in, question_in, ◌>>=◌, object}
use Rattle.plant_json_in.specs.declared.format_errors.ReadFault.TheVariants as fault
use Rattle.plant_json_in.specs.declared.format_errors.FormatError.TheVariants as format_error
use Rattle.plant_json_in.specs.declared.members.Member.TheVariants as m
use Rattle.plant_json_in.specs.declared.question_tables.AskedKind.TheVariants as asked
use Rattle.plant_json_in.specs.declared.question_tables.QuestionKind.TheVariants as q
use Rattle.plant_json_in.specs.{check_of, checked_in, command_of, ToCheck}
use Rattle.plant_json_in.specs.declared.checks.ToCheck.TheVariants as to_check
use Rattle.plant_text.specs.declared.read.Line.{Line}
use Rattle.plant_text.specs.declared.read.Line.TheVariants as L

-- what an object asks for by its word
abbrev pub kind_at : Data → Option AskedKind
kind_at d = option_and_then asked_kind (option_and_then as_str (get (codes "ask") d))

abbrev pub kind_around : Around → Option NodeKind → Result QuestionKind FormatError
kind_around around None = Err format_error.NothingTraced
kind_around around (Some node) = Ok (q.Around around node)

-- the kind of the question that an object is whose word asks for this; a check has none
abbrev pub question_kind : AskedKind → Data → Result QuestionKind FormatError
question_kind (asked.About topic) d = Ok (q.About topic)
question_kind (asked.Around around) d = kind_around around (node_in d)
question_kind (asked.List list) d = Ok (q.List list)
question_kind asked.Check d = Err (format_error.Object shape_error.Malformed)

abbrev pub question_asked : AskedKind → Data → Result Line FormatError
question_asked asked d = question_kind asked d >>= (λ kind. question_in kind d >>= (λ question. Ok (L.Question question)))

-- an object without the word of a question or a check has at least that flaw
abbrev pub asked_by : Option AskedKind → Data → Result Line FormatError
asked_by None d = object (fields_of (m.Ask ∷ []) d >>= (λ fs. Err shape_error.Malformed))
asked_by (Some asked.Check) d = check_of d >>= (λ c. Ok (L.Check c))
asked_by (Some asked) d = question_asked asked d

-- the question that an object is, or the check that it asks for, or its first problem
abbrev pub question_line : Data → Result Line FormatError
question_line d = asked_by (kind_at d) d

-- the command that an object is, or what it asks for; with `do` and `ask` it would have a member too many for either
abbrev pub object_says : Data → Result Line FormatError
object_says d =
    if is_some (get (codes "do") d) then command_of d >>= (λ c. Ok (L.Command c)) else (
    if is_some (get (codes "ask") d) then question_line d else
    Err format_error.Neither)

-- what a JSON value says, or its first problem
abbrev pub value_says : Data → Result Line FormatError
value_says d = if is_some (as_object d) then object_says d else Err (format_error.Object shape_error.NoObject)

-- the bytes of the longest line that is read, its LF and the one CR before it not counted
abbrev pub longest_line : ℕ
longest_line = 262144

-- the JSON value of a text, where it has one
abbrev pub or_no_json : Option Data → Result Data FormatError
or_no_json None = Err format_error.NoJson
or_no_json (Some d) = Ok d

-- what serde_json reads from a text in UTF-8 that is no longer than a line may be
unfoldable pub value_in : List ℕ → Result Data FormatError
value_in bytes = if nat_lt longest_line (length bytes) then Err format_error.TooLong else or_no_json (if is_utf8 bytes then read bytes else None)

-- the problem that a text has, want of memory aside
abbrev pub IsProblemOf : ReadFault → Result Data FormatError → Type 0
IsProblemOf (fault.Reported p) r = r ≡ Err p
IsProblemOf fault.Memory r = ⊤

-- what a line says, or its first problem
unfoldable pub line_says : List ℕ → Result Line FormatError
line_says bytes = value_in bytes >>= value_says

-- what a line says; one that has a problem says nothing
abbrev pub line_of : List ℕ → Option Line
line_of bytes = result_ok (line_says bytes)

-- what is to be checked where a text has this value, or this problem
abbrev pub checked_by : Result Data FormatError → ToCheck
checked_by (Ok d) = checked_in d
checked_by (Err p) = to_check.BadForm p

-- what is to be checked of a text in the place of a command
unfoldable pub text_checked : List ℕ → ToCheck
text_checked bytes = checked_by (value_in bytes)
