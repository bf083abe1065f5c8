-- What is reported of the lines of an input.
use Rattle.std.specs.Prelude.{◌≡◌, ℕ, ◌+◌, List, [], ◌∷◌, ◌++◌, map, Bool, true, false, if◌then◌else◌, codes, decimal, Option}
use Rattle.std.specs.Str.Lines.{lines}
use Rattle.std.specs.Io.KnownBytes.{Appends}
use Rattle.plant_text.specs.{ended_after, with_lf, AppendsPrefix}
use Rattle.plant_text_checks.specs.{reason_text, Reason}
use Rattle.desk_cli.specs.{CheckFault}
use Rattle.desk_cli.specs.declared.check_fault.CheckFault.TheVariants as fault
use Rattle.line_check.specs.declared.judge.Verdict.{Verdict}
use Rattle.line_check.specs.declared.judge.Verdict.TheVariants as verdict
use Rattle.line_check.specs.declared.lines.Tally.{Tally}
use Rattle.line_check.specs.Verdicts.{verdict_of}

-- ---- the report on an input

abbrev pub verdicts : List (List ℕ) → List Verdict
verdicts ls = map verdict_of ls

-- what is reported of the line of a number, without its LF
abbrev pub answer_lines : ℕ → Reason → List ℕ
answer_lines number reason = codes "line " ++ decimal number ++ codes ": " ++ reason_text reason

-- a bad line is reported, and no other
abbrev pub line_text : ℕ → Verdict → List ℕ
line_text number verdict.Nothing = []
line_text number verdict.Command = []
line_text number verdict.Question = []
line_text number (verdict.Bad reason) = with_lf (answer_lines number reason)

-- what is reported of the lines after so many
abbrev pub texts : ℕ → List Verdict → List ℕ
texts before [] = []
texts before (v ∷ vs) = line_text (before + 1) v ++ texts (before + 1) vs

-- a line more
abbrev pub tally_with : Tally → Verdict → Tally
tally_with t verdict.Nothing = record { lines = t.lines + 1; commands = t.commands; questions = t.questions; bad = t.bad }
tally_with t verdict.Command = record { lines = t.lines + 1; commands = t.commands + 1; questions = t.questions; bad = t.bad }
tally_with t verdict.Question = record { lines = t.lines + 1; commands = t.commands; questions = t.questions + 1; bad = t.bad }
tally_with t (verdict.Bad reason) = record { lines = t.lines + 1; commands = t.commands; questions = t.questions; bad = true }

abbrev pub tally_after : Tally → List Verdict → Tally
tally_after t [] = t
tally_after t (v ∷ vs) = tally_after (tally_with t v) vs

abbrev pub counts_text : Tally → List ℕ
counts_text t = decimal t.commands ++ codes " commands, " ++ decimal t.questions ++ codes " questions"

-- the counts are written where no line is bad
abbrev pub end_text : Tally → List ℕ
end_text t = if t.bad then [] else with_lf (counts_text t)

-- the tally before the first line
abbrev pub no_lines : Tally
no_lines = record { lines = 0; commands = 0; questions = 0; bad = false }

-- the report on an input, whose lines are std's
abbrev pub report : List ℕ → List ℕ
report bytes = texts 0 (verdicts (lines bytes)) ++ end_text (tally_after no_lines (verdicts (lines bytes)))

-- some line of the input is bad
abbrev pub some_bad : List ℕ → Bool
some_bad bytes = (tally_after no_lines (verdicts (lines bytes))).bad

-- ---- over bytes that come in pieces

-- the verdicts on the lines that end in the bytes, where so much is held of the first
abbrev pub verdicts_after : List ℕ → List ℕ → List Verdict
verdicts_after held bs = verdicts (ended_after held bs)

-- these verdicts were reported and counted
pub record AreWrittenAndCounted (start : Tally) (vs : List Verdict) (old new : Option (List ℕ)) (now : Tally) : Type 0 where
  pub text : Appends old new (texts start.lines vs)
  pub tally : now ≡ tally_after start vs

-- ---- a report that ends early

-- a front of the text was written, perhaps all of it
abbrev pub AppendsFront : Option (List ℕ) → Option (List ℕ) → List ℕ → Type 0
AppendsFront old new text = (front : List ℕ) × (rest : List ℕ) × (text ≡ front ++ rest) × Appends old new front

-- a fault at which a front of the text had been written, where a write failed not all of it; that a file can't be opened is none
abbrev pub EndsEarly : CheckFault → Option (List ℕ) → Option (List ℕ) → List ℕ → Type 0
EndsEarly fault.Open old new text = ⊥
EndsEarly fault.Read old new text = AppendsFront old new text
EndsEarly fault.Write old new text = AppendsPrefix old new text
EndsEarly fault.Memory old new text = AppendsFront old new text
