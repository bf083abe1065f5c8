-- The outcome of the subcommands `init` and `verify`, which print one line of the state at which a store was adopted.
use Rattle.std.specs.Prelude.{◌≡◌, ◌⊎◌, ℕ, List, Bool, false, Option, Result, Ok, Err}
use Rattle.std.specs.Io.KnownBytes.{Appends}
use Rattle.sqlite.specs.State as store
use Rattle.plant_base.specs.{State, newest_schema}
use Rattle.plant_desk_store.specs.{IsDurablyAt}
use Rattle.plant_text.specs.{with_lf, AppendsPrefix}
use Rattle.desk_program.specs.Faults.{IsPrintFault, NothingBut}
use Rattle.desk_program.specs.Runs.{AdoptedIfHonest, IsRefused}
use Rattle.desk_program.specs.Texts.{ready_text, good_text}
use Rattle.desk_program.specs.declared.fault.ProgramFault.{ProgramFault}

-- a line for each state
abbrev pub LineOf : Type 0
LineOf = State → List ℕ

-- the line of `init`
abbrev pub ready_line : LineOf
ready_line s = ready_text newest_schema

-- the line of `verify`
abbrev pub good_line : LineOf
good_line s = good_text newest_schema s.seq

-- at this fault a line wasn't written: nothing was, or, where the writer failed, a prefix of it
abbrev pub LineStops : List ℕ → Option (List ℕ) → Option (List ℕ) → ProgramFault → Type 0
LineStops line old new f = NothingBut (AppendsPrefix old new (with_lf line)) old new f

-- The subcommand stopped at this fault: the store was adopted, and is at that state, but its line wasn't written; or it wasn't
-- adopted, and nothing was written.
abbrev pub ReportStops : LineOf → store.State → store.State → Option (List ℕ) → Option (List ℕ) → ProgramFault → Type 0
ReportStops line before after old new f =
    (IsPrintFault f × AdoptedIfHonest before after (λ s. IsDurablyAt after s × LineStops (line s) old new f))
    ⊎ (IsRefused before after f × (new ≡ old))

-- The outcome of the subcommand, in which nothing is refused: the store was adopted, is at that state, and its line was written; or
-- the subcommand stopped.
abbrev pub ReportGives : LineOf → store.State → store.State → Option (List ℕ) → Option (List ℕ) → Result Bool ProgramFault → Type 0
ReportGives line before after old new (Ok refused) =
    (refused ≡ false) × AdoptedIfHonest before after (λ s. IsDurablyAt after s × Appends old new (with_lf (line s)))
ReportGives line before after old new (Err f) = ReportStops line before after old new f
