-- What is written as the program does what its arguments ask for, and the exit status.
use Rattle.std.specs.Prelude.{◌≡◌, ◌⊎◌, ℕ, List, Bool, true, false, Option, Result, Ok, Err, string_bytes}
use Rattle.std.specs.Io.KnownBytes.{Appends}
use Rattle.plant_text.specs.{with_lf, AppendsPrefix}
use Rattle.desk_program.specs.Faults.{status_of, NothingBut}
use Rattle.desk_program.specs.Texts.{ready_text, good_text, fault_text}
use Rattle.desk_program.specs.declared.fault.ProgramFault.{ProgramFault}
use Rattle.desk_program.specs.declared.fault.ProgramFault.TheVariants as fault
use Rattle.desk_cli.specs.{WordsFault}
use Rattle.desk_cli.specs.declared.meaning.WordsFault.TheVariants as unmeant

-- some lines, of which one is written
abbrev pub Lines : Type 1
Lines = List ℕ → Type 0

abbrev pub IsReady : Lines
IsReady line = (schema : ℕ) × (line ≡ ready_text schema)

abbrev pub IsGoodLine : Lines
IsGoodLine line = (schema : ℕ) × (seq : ℕ) × (line ≡ good_text schema seq)

-- one of the lines was written
abbrev pub Printed : Lines → Option (List ℕ) → Option (List ℕ) → Type 0
Printed lines old new = (line : List ℕ) × lines line × Appends old new (with_lf line)

-- at this fault nothing was written, or, where the writer failed, a prefix of one of the lines
abbrev pub Unprinted : Lines → Option (List ℕ) → Option (List ℕ) → ProgramFault → Type 0
Unprinted lines old new f = NothingBut ((line : List ℕ) × lines line × AppendsPrefix old new (with_lf line)) old new f

-- what one line makes of an outcome, in which nothing is refused
abbrev pub PrintsLine : Lines → Option (List ℕ) → Option (List ℕ) → Result Bool ProgramFault → Type 0
PrintsLine lines old new (Ok refused) = (refused ≡ false) × Printed lines old new
PrintsLine lines old new (Err f) = Unprinted lines old new f

-- the text was written, or a prefix of it where the writer failed
abbrev pub Written : Option (List ℕ) → Option (List ℕ) → List ℕ → Type 0
Written old new text = Appends old new text ⊎ AppendsPrefix old new text

-- the fault's line is written, and the status is the fault's
abbrev pub WritesFault : ProgramFault → Option (List ℕ) → Option (List ℕ) → ℕ → Type 0
WritesFault f old new status = (status ≡ status_of f) × Written old new (with_lf (fault_text f))

-- what is on standard error, and the exit status
abbrev pub Exits : Option (List ℕ) → Option (List ℕ) → ℕ → Result Bool ProgramFault → Type 0
Exits old new status (Ok false) = (status ≡ 0) × (new ≡ old)
Exits old new status (Ok true) = (status ≡ 1) × (new ≡ old)
Exits old new status (Err f) = WritesFault f old new status

-- the outcome of a task whose store was closed after it, or couldn't be
abbrev pub after_closing : Result Bool ProgramFault → Bool → Result Bool ProgramFault
after_closing outcome true = outcome
after_closing (Ok refused) false = Err fault.Store
after_closing (Err f) false = Err f

-- what is written where the arguments of the command line give nothing to do, and the exit status
abbrev pub WritesWordsFault : WordsFault → Option (List ℕ) → Option (List ℕ) → Option (List ℕ) → Option (List ℕ) → ℕ → Type 0
WritesWordsFault (unmeant.Usage text) old new old_errors new_errors status = (status ≡ 2) × (new ≡ old) × Written old_errors new_errors (string_bytes text)
WritesWordsFault (unmeant.Help text) old new old_errors new_errors status = ((status ≡ 0) × Appends old new (string_bytes text) × (new_errors ≡ old_errors))
    ⊎ (AppendsPrefix old new (string_bytes text) × WritesFault fault.Write old_errors new_errors status)
WritesWordsFault unmeant.Memory old new old_errors new_errors status = (new ≡ old) × WritesFault fault.Memory old_errors new_errors status
