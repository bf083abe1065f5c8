-- The faults that the program ends with: where they come from, and the exit status of each.
use Rattle.std.specs.Prelude.{◌≡◌, ℕ, List, Bool, Option, Some, None, Result, Ok, Err, ok_or, ⊤}
use Rattle.plant_questions.specs.{Answer, DeskFault}
use Rattle.plant_questions.specs.declared.question.Answer.TheVariants as A
use Rattle.plant_questions.specs.declared.reply.DeskFault.TheVariants as desk
use Rattle.plant_desk_store.specs.{AdoptFault}
use Rattle.plant_desk_store.specs.declared.adopting.AdoptFault.TheVariants as adopt
use Rattle.plant_text.specs.{RunEnd, TurnError}
use Rattle.plant_text.specs.declared.run.RunEnd.TheVariants as end
use Rattle.plant_text.specs.declared.turns.TurnError.TheVariants as stop
use Rattle.desk_program.specs.declared.fault.ProgramFault.{ProgramFault}
use Rattle.desk_program.specs.declared.fault.ProgramFault.TheVariants as fault
use Rattle.desk_program.specs.declared.summary.DeskSummary.{DeskSummary}

abbrev pub status_of : ProgramFault → ℕ
status_of fault.Memory = 4
status_of _ = 3

-- the fault as which one of an adoption is reported
abbrev pub adopt_fault : AdoptFault → ProgramFault
adopt_fault adopt.Store = fault.Store
adopt_fault (adopt.Newer schema) = fault.Newer schema
adopt_fault (adopt.Damaged rule) = fault.Damaged rule
adopt_fault adopt.Memory = fault.Memory

-- the fault as which one of a keeper is reported
abbrev pub desk_fault : DeskFault → ProgramFault
desk_fault desk.Store = fault.Store
desk_fault desk.Memory = fault.Memory
desk_fault desk.Shut = fault.Store

-- whether something was refused, or the fault
abbrev pub outcome_of : RunEnd → Result Bool ProgramFault
outcome_of (end.Done refused) = Ok refused
outcome_of end.Read = Err fault.Read
outcome_of end.Write = Err fault.Write
outcome_of end.Endless = Err fault.Endless
outcome_of (end.Fault f) = Err (desk_fault f)

-- whether a command was refused, or the fault
abbrev pub outcome_of_turn : Result Bool TurnError → Result Bool ProgramFault
outcome_of_turn (Ok refused) = Ok refused
outcome_of_turn (Err stop.Write) = Err fault.Write
outcome_of_turn (Err (stop.Fault f)) = Err (desk_fault f)

-- the summary of a keeper in its answer to the question for that
abbrev pub summary_in : Answer → Option DeskSummary
summary_in (A.Desk schema seq) = Some (record { schema = schema; seq = seq })
summary_in _ = None

-- the summary of a keeper by what it answered when it was asked for that; an answer of another kind is a fault of the store
abbrev pub summary_of : Result Answer DeskFault → Result DeskSummary ProgramFault
summary_of (Ok a) = ok_or (summary_in a) fault.Store
summary_of (Err f) = Err (desk_fault f)

-- a fault at which no line was printed of an adopted desk: of the store, of memory or of the writer
abbrev pub IsPrintFault : ProgramFault → Type 0
IsPrintFault fault.Store = ⊤
IsPrintFault fault.Memory = ⊤
IsPrintFault fault.Write = ⊤
IsPrintFault _ = ⊥

-- at this fault nothing was written, or, where the writer failed, what is said of it
abbrev pub NothingBut : Type 0 → Option (List ℕ) → Option (List ℕ) → ProgramFault → Type 0
NothingBut prefix old new fault.Write = prefix
NothingBut prefix old new _ = new ≡ old
