-- What is wrong with a line, the texts of it, and readings that may want memory.
use Rattle.std.specs.Prelude.{◌≡◌, ⊤, ℕ, List, ◌++◌, codes, decimal, Bool, true, false, Option, Some, None, Result, Ok, Err}
use Rattle.plant_json_in.specs.declared.format_errors.ShapeError.{ShapeError}
use Rattle.plant_json_in.specs.declared.format_errors.ShapeError.TheVariants as shape_error
use Rattle.plant_json_in.specs.declared.format_errors.FormatError.{FormatError}
use Rattle.plant_json_in.specs.declared.format_errors.FormatError.TheVariants as format_error
use Rattle.plant_json_in.specs.declared.format_errors.ReadFault.{ReadFault}
use Rattle.plant_json_in.specs.declared.format_errors.ReadFault.TheVariants as fault
use Rattle.plant_json_in.specs.Members.{name_of, rule_of, rule_text}

-- ---- readings

-- the one, and then the other, where nothing is wrong
infixl 10 ◌>>=◌
abbrev pub ◌>>=◌ : {A B E : Type 0} → Result A E → (A → Result B E) → Result B E
Ok a >>= f = f a
Err e >>= f = Err e

-- what was read is this, or else this is wrong; nothing is said where memory was refused
abbrev pub Reports : {T : Type 0} → Result T ReadFault → Result T FormatError → Type 0
Reports (Ok v) r = r ≡ Ok v
Reports (Err (fault.Reported p)) r = r ≡ Err p
Reports (Err fault.Memory) r = ⊤

-- a flaw of the line's object
abbrev pub object : {A : Type 0} → Result A ShapeError → Result A FormatError
object (Ok x) = Ok x
object (Err f) = Err (format_error.Object f)

-- what was made, where something was
abbrev pub or_malformed : {A : Type 0} → Option A → Result A ShapeError
or_malformed None = Err shape_error.Malformed
or_malformed (Some x) = Ok x

-- the flaw says what is wrong, and not only that something is
abbrev pub is_reported : ShapeError → Bool
is_reported shape_error.Malformed = false
is_reported _ = true

abbrev pub format_error_is_reported : FormatError → Bool
format_error_is_reported (format_error.Object f) = is_reported f
format_error_is_reported (format_error.Item list number f) = is_reported f
format_error_is_reported _ = true

-- why nothing was read says what is wrong, or memory was refused
abbrev pub IsReported : {A : Type 0} → Result A ReadFault → Type 0
IsReported (Ok x) = ⊤
IsReported (Err (fault.Reported p)) = format_error_is_reported p ≡ true
IsReported (Err fault.Memory) = ⊤

-- ---- texts

abbrev pub other_text : Option (List ℕ) → List ℕ
other_text (Some name) = codes "member " ++ name ++ codes " doesn't belong here"
other_text None = codes "a member doesn't belong here whose name is no text"

abbrev pub shape_error_text : ShapeError → List ℕ
shape_error_text shape_error.NoObject = codes "not a JSON object"
shape_error_text (shape_error.Missing which) = codes "member " ++ name_of which ++ codes " is missing"
shape_error_text (shape_error.Breaks which) = name_of which ++ codes " is not " ++ rule_text (rule_of which)
shape_error_text (shape_error.Other name) = other_text name
shape_error_text shape_error.Malformed = codes "neither a command nor a question"

abbrev pub format_error_text : FormatError → List ℕ
format_error_text format_error.TooLong = codes "longer than 262144 bytes"
format_error_text format_error.NoJson = codes "not a JSON text"
format_error_text format_error.Neither = codes "neither do nor ask is there"
format_error_text format_error.NothingTraced = codes "neither lot nor batch is there"
format_error_text (format_error.Object f) = shape_error_text f
format_error_text (format_error.Item list number f) = name_of list ++ codes " " ++ decimal number ++ codes ": " ++ shape_error_text f
