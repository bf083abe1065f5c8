-- The outcome of the subcommand `import`.
use Rattle.std.specs.Prelude.{◌≡◌, ◌⊎◌, ℕ, List, Bool, true, false, Option, Result, Ok, Err}
use Rattle.std.specs.Io.KnownBytes.{Appends}
use Rattle.sqlite.specs.State as store
use Rattle.plant_base.specs.{Agrees, State, newest_schema, OrderRow}
use Rattle.plant_keeper.specs.{States}
use Rattle.plant_questions.specs.declared.reply.DeskFault.TheVariants as desk
use Rattle.plant_desk_store.specs.{Represents, HasCrashStates}
use Rattle.plant_orders.specs.{import, orders_of, csv_text, FaultOfFile, CsvFault, ImportMetadata, OrdersFault}
use Rattle.plant_orders.specs.declared.source.OrdersFault.TheVariants as none
use Rattle.plant_text.specs.{command, TurnEnds, FaultWritten, with_lf, AppendsPrefix, TurnError}
use Rattle.desk_program.specs.Faults.{outcome_of_turn}
use Rattle.desk_program.specs.Runs.{AdoptedIfHonest, WasRefused}
use Rattle.desk_program.specs.declared.fault.ProgramFault.{ProgramFault}
use Rattle.desk_program.specs.declared.fault.ProgramFault.TheVariants as fault

-- the first fault of a file was printed, wholly or, where the writer failed, by a prefix
abbrev pub CsvFaultWritten : CsvFault → Option (List ℕ) → Option (List ℕ) → Result Bool ProgramFault → Type 0
CsvFaultWritten csv old new done = ((done ≡ Ok true) × Appends old new (with_lf (csv_text csv)))
    ⊎ ((done ≡ Err fault.Write) × AppendsPrefix old new (with_lf (csv_text csv)))

-- the line of want of memory was written, or a prefix of it where the writer failed
abbrev pub MemoryFaultWritten : Option (List ℕ) → Option (List ℕ) → Result Bool ProgramFault → Type 0
MemoryFaultWritten old new done = (stop : TurnError) × FaultWritten desk.Memory old new stop × (done ≡ outcome_of_turn (Err stop))

-- what was printed where a reader gave no orders: the first fault of its file, or want of memory; of a failed read nothing is
-- written
abbrev pub NoOrdersWritten : OrdersFault → Option (List ℕ) → Option (List ℕ) → Result Bool ProgramFault → Type 0
NoOrdersWritten (none.Csv csv) old new done = CsvFaultWritten csv old new done
NoOrdersWritten none.Read old new done = (done ≡ Err fault.Read) × (new ≡ old)
NoOrdersWritten none.Memory old new done = MemoryFaultWritten old new done

-- The keeper represented s. The outcome of what a reader gave: its orders were executed as one command and the reply was
-- written, as in a run; or why it gave none was printed, and nothing executed.
abbrev pub OrdersTaken : ℕ → State → ImportMetadata → Result (List OrderRow) OrdersFault → Option (List ℕ) → Option (List ℕ) → States → Bool → (States → Type 0) → Result Bool ProgramFault → Type 0
OrdersTaken k s import_metadata (Ok orders) old new represents shut crash_states done =
    (turn : Result Bool TurnError) × TurnEnds k s (command (import import_metadata orders)) old new represents shut crash_states turn × (done ≡ outcome_of_turn turn)
OrdersTaken k s import_metadata (Err f) old new represents shut crash_states done = NoOrdersWritten f old new done × represents s × (shut ≡ false)

-- what a reader may give of a file that says this: its orders, or a fault that is its
abbrev pub IsGivenOf : Result (List OrderRow) CsvFault → Result (List OrderRow) OrdersFault → Type 0
IsGivenOf says (Ok orders) = says ≡ Ok orders
IsGivenOf says (Err f) = FaultOfFile f says

-- the outcome of a file that says this at a keeper that represented s
abbrev pub ImportEnds : ℕ → State → ImportMetadata → Result (List OrderRow) CsvFault → Option (List ℕ) → Option (List ℕ) → States → Bool → (States → Type 0) → Result Bool ProgramFault → Type 0
ImportEnds k s import_metadata says old new represents shut crash_states done =
    (given : Result (List OrderRow) OrdersFault) × IsGivenOf says given × OrdersTaken k s import_metadata given old new represents shut crash_states done

-- the outcome of the file that a reader gave, which has these bytes left, at a keeper that represented s
abbrev pub FileEnds : ℕ → State → ImportMetadata → Option (List ℕ) → Option (List ℕ) → Option (List ℕ) → States → Bool → (States → Type 0) → Result Bool ProgramFault → Type 0
FileEnds k s import_metadata unread old new represents shut crash_states done =
    (bytes : List ℕ) × Agrees unread bytes × ImportEnds k s import_metadata (orders_of bytes) old new represents shut crash_states done

-- The outcome of a file over a store: it was adopted, and the file taken in from there; or it wasn't adopted, and nothing was
-- written.
abbrev pub ImportGives : store.State → store.State → ImportMetadata → Option (List ℕ) → Option (List ℕ) → Option (List ℕ) → Result Bool ProgramFault → Type 0
ImportGives before after import_metadata unread old new done =
    AdoptedIfHonest before after (λ s. (shut : Bool)
    × FileEnds newest_schema s import_metadata unread old new (Represents after shut) shut (HasCrashStates after) done)
    ⊎ (WasRefused before after done × (new ≡ old))
