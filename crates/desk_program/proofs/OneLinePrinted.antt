-- One line on standard output.
use Rattle.std.proofs.Common.{◌≡◌, ℕ, List, Option, Result, Ok, Err, subst, sym, refl, OnOk, IfErr, MatchResult, ◌≢◌}
use Rattle.std.specs.Io.KnownBytes.{Appends}
use Rattle.plant_text.specs.{with_lf, AppendsPrefix}
use Rattle.desk_program.specs.{IsPrintFault, Lines, Printed, Unprinted, LineStops}
use Rattle.desk_program.specs.declared.fault.ProgramFault.{ProgramFault}
use Rattle.desk_program.specs.declared.fault.ProgramFault.TheVariants as fault

-- a line by another name
pub line_is : {A : Type 0} (r : Result A ProgramFault) (old new : Option (List ℕ)) (line wanted : List ℕ) → line ≡ wanted
    → OnOk r (Appends old new (with_lf line)) → OnOk r (Appends old new (with_lf wanted))
line_is r old new line wanted e h = subst (λ (text : List ℕ). OnOk r (Appends old new (with_lf text))) e h

-- a line that is one of these was printed, or a prefix of it
pub one_printed : {A : Type 0} (r : Result A ProgramFault) (lines : Lines) (line : List ℕ) (old new : Option (List ℕ)) → lines line
    → OnOk r (Appends old new (with_lf line)) → IfErr r (λ f. f ≡ fault.Write) → IfErr r (λ _. AppendsPrefix old new (with_lf line))
    → MatchResult r (λ _. Printed lines old new) (Unprinted lines old new)
one_printed (Ok x) lines line old new is ok e prefix = (line, is, ok)
one_printed (Err f) lines line old new is ok e prefix = subst (λ (g : ProgramFault). Unprinted lines old new g) (sym e) (line, is, prefix)

-- a line that wasn't printed whole, by another name
pub line_stopped : {A : Type 0} (r : Result A ProgramFault) (old new : Option (List ℕ)) (line wanted : List ℕ) → line ≡ wanted
    → IfErr r (λ f. f ≡ fault.Write) → IfErr r (λ _. AppendsPrefix old new (with_lf line)) → IfErr r (LineStops wanted old new)
line_stopped (Ok x) old new line wanted e is prefix = tt
line_stopped (Err f) old new line wanted e is prefix =
    let left : AppendsPrefix old new (with_lf wanted) = subst (λ (text : List ℕ). AppendsPrefix old new (with_lf text)) e prefix in
    subst (λ (g : ProgramFault). LineStops wanted old new g) (sym is) left

-- a fault before any of the line was written
pub line_unbegun : (line : List ℕ) (old : Option (List ℕ)) (f : ProgramFault) → f ≢ fault.Write → LineStops line old old f
line_unbegun line old fault.Write h = absurd (h refl)
line_unbegun line old _ h = refl

-- a failed write is one of the faults of printing
pub printing_failed : {A : Type 0} (r : Result A ProgramFault) → IfErr r (λ f. f ≡ fault.Write) → IfErr r IsPrintFault
printing_failed (Ok x) is = tt
printing_failed (Err f) is = subst IsPrintFault (sym is) tt
