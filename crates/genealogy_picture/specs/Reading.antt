-- What all lines of an input report.
use Rattle.std.specs.Prelude.{◌≡◌, ℕ, ◌+◌, ◌==◌, List, [], ◌∷◌, ◌++◌, if◌then◌else◌, Result, Ok, Err, ⊤}
use Rattle.genealogy_svg.specs.declared.reported.Reported.{Reported}
use Rattle.genealogy_picture.specs.declared.answers.AnswerLineFault.{AnswerLineFault}
use Rattle.genealogy_picture.specs.declared.answers.AnswerLineFault.TheVariants as line
use Rattle.genealogy_picture.specs.declared.answers.LineError.{LineError}
use Rattle.genealogy_picture.specs.declared.ending.InputError.{InputError}
use Rattle.genealogy_picture.specs.declared.ending.InputError.TheVariants as refusal
use Rattle.genealogy_picture.specs.declared.ending.DrawError.{DrawError}
use Rattle.genealogy_picture.specs.declared.ending.DrawError.TheVariants as stop
use Rattle.genealogy_picture.specs.Answers.{◌>>=◌, line_into}
use Rattle.genealogy_picture.specs.Gathering.{nothing}
use Rattle.genealogy_picture.specs.ReadingState.{ReadingState}

-- what was made is seen as this, or else the input is refused so, unless memory was refused
abbrev pub ReportsAs : {A B : Type 0} → (A → B) → Result A DrawError → Result B InputError → Type 0
ReportsAs seen (Ok a) r = r ≡ Ok (seen a)
ReportsAs seen (Err (stop.Refused w)) r = r ≡ Err w
ReportsAs seen (Err stop.Open) r = ⊥
ReportsAs seen (Err stop.Read) r = ⊥
ReportsAs seen (Err stop.Write) r = ⊥
ReportsAs seen (Err stop.Memory) r = ⊤

-- how a line of a number is reported
abbrev pub numbered : ℕ → Result Unit AnswerLineFault → Result Unit DrawError
numbered number (Ok u) = Ok u
numbered number (Err (line.Reported line_error)) = Err (stop.Refused (refusal.Line number line_error))
numbered number (Err line.Memory) = Err stop.Memory

abbrev pub of_line : {A : Type 0} → ℕ → Result A LineError → Result A InputError
of_line number (Ok a) = Ok a
of_line number (Err line_error) = Err (refusal.Line number line_error)

-- ---- bytes, one after the other

-- nothing is read
abbrev pub start : ReadingState
start = record { reported = nothing; number = 1; held = [] }

abbrev pub line_ended : ReadingState → Result ReadingState InputError
line_ended s = of_line s.number (line_into s.reported s.held) >>= (λ reported. Ok (record { reported = reported; number = s.number + 1; held = [] }))

-- an LF ends a line
abbrev pub taken : ReadingState → ℕ → Result ReadingState InputError
taken s b = if b == 10 then line_ended s else Ok (record { reported = s.reported; number = s.number; held = s.held ++ b ∷ [] })

abbrev pub read_from : ReadingState → List ℕ → Result ReadingState InputError
read_from s [] = Ok s
read_from s (b ∷ bs) = taken s b >>= (λ now. read_from now bs)

-- what the input reports, or its first line that is no answer; what comes after the last LF is a line too
unfoldable pub reported_of : List ℕ → Result Reported InputError
reported_of bytes = read_from start bytes >>= (λ s. line_ended s >>= (λ last. Ok last.reported))
