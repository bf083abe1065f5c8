-- The verdict on a line, by what it says.
use Rattle.std.proofs.Common.{◌≡◌, ℕ, ◌<◌, List, length, nat_eq, true, false, Result, Err, refl, arith}
use Rattle.std.proofs.lemmas.Bool.Decides.{nat_tests}
use Rattle.plant_json_in.specs.{FormatError}
use Rattle.plant_json_in.specs.declared.format_errors.FormatError.TheVariants as format_error
use Rattle.plant_text.specs.{Line, longest_line, line_says}
use Rattle.plant_text.proofs.LineMeaning.{says_long}
use Rattle.line_check.specs.declared.judge.Verdict.TheVariants as verdict
use Rattle.plant_text_checks.specs.declared.reason.Reason.TheVariants as reason
use Rattle.line_check.specs.{verdict_where, verdict_of}

pub verdict_empty : (line : List ℕ) → length line ≡ 0 → verdict_of line ≡ verdict.Nothing
unfolding verdict_of
verdict_empty line h =
    let none : nat_eq (length line) 0 ≡ true = grind (arith, nat_tests) in
    rw none refl

pub verdict_said : (line : List ℕ) (r : Result Line FormatError) → 0 < length line → line_says line ≡ r → verdict_of line ≡ verdict_where r
unfolding verdict_of
verdict_said line r h e =
    let some : nat_eq (length line) 0 ≡ false = grind (arith, nat_tests) in
    rw (some, e) refl

pub verdict_long : (line : List ℕ) → longest_line < length line → verdict_of line ≡ verdict.Bad (reason.Shape format_error.TooLong)
verdict_long line h =
    let some : 0 < length line = omega (arith, h) in
    verdict_said line (Err format_error.TooLong) some (says_long line h)
