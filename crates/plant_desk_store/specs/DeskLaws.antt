-- What follows from the state that a desk represents, and from what an adoption leaves.
use Rattle.std.specs.Prelude.{◌≡◌, ◌⊎◌, ◌↔◌, ◌≤◌, ℕ, All, List, map, Contains}
use Rattle.std.specs.List.Sorted.{IsStrictlySortedBy}
use Rattle.sqlite.specs.Tree.{Trees}
use Rattle.sqlite.specs.Effect.{Database, IsDatabase}
use Rattle.plant_base.specs.{mark_order, State, opening, newest_schema, Mark}
use Rattle.plant_view.specs.{edges_of, Reaches, node_of, tables_of}
use Rattle.sql_tables.specs.{AreFree, IsFree, KeepsOtherTables, HasStoredRows}
use Rattle.plant_tables_columns.specs.{row_of_mark}
use Rattle.plant_tables.specs.{desk_table_defs, later_table_defs, mark_table, HoldsTables}
use Rattle.plant_tables.specs.{IsKnown}
use Rattle.plant_desk_store.specs.Adopting.{HoldsValidState, IsAdopted, IsRefusedBy}
use Rattle.plant_desk_store.specs.DeskStates.{FindsStateOf}
use Rattle.plant_desk_store.specs.declared.adopting.AdoptFault.{AdoptFault}
use Rattle.plant_desk_store.specs.declared.adopting.AdoptFault.TheVariants.{Store, Memory}

-- The tables of a valid state are there in a known version, and the names of those that a later one adds are free.
pub record IsAdoptable (version : ℕ) (db : Database) (s : State) : Type 0 where
  pub held : HoldsValidState version db s
  pub free : All (IsFree db.schema) (later_table_defs version)

-- Whatever database is opened over what a stop left, it holds the tables of the state that was to be found there, in the
-- same version, and its names are those that were to be found.
abbrev pub StopsAreReopened : Type 0
StopsAreReopened = (version : ℕ) (trees : Trees) (s : State) → IsKnown version → (finds : FindsStateOf version trees s) → (db : Database) → db.trees ≡ trees → IsDatabase db → HoldsValidState version db s × (db.schema ≡ finds.schema)

-- The tables of a valid state, of a known version, and none that a later one adds, are refused by a fault of the store or for want of memory, and for nothing else.
abbrev pub ValidIsNotRefused : Type 0
ValidIsNotRefused = (version : ℕ) (db : Database) (s : State) → IsAdoptable version db s → (f : AdoptFault) → IsRefusedBy db f → (f ≡ Store) ⊎ (f ≡ Memory)

-- ---- adopted, stopped, opened again

-- the database that is opened over the trees that were there, or over those that an adoption may have made
abbrev pub IsOpenedAfter : Database → Database → Type 0
IsOpenedAfter old db = IsDatabase db × ((db.trees ≡ old.trees) ⊎ IsAdopted old db.trees)

-- Where a valid state could be adopted, it can be again, in the same version or a later one, with the same
-- foreign tables.
abbrev pub ValidIsAdoptedAgain : Type 0
ValidIsAdoptedAgain = (version : ℕ) (old : Database) (s : State) → IsAdoptable version old s → (db : Database) → IsOpenedAfter old db → (later : ℕ) × (version ≤ later) × IsAdoptable later db s × KeepsOtherTables desk_table_defs old db

-- Where the names of the desk's tables were free, nothing was changed, or the opening state can be adopted, with the same
-- foreign tables.
abbrev pub OpeningIsAdopted : Type 0
OpeningIsAdopted = (old : Database) → IsDatabase old → AreFree desk_table_defs old.schema → (db : Database) → IsOpenedAfter old db → (db ≡ old) ⊎ (IsAdoptable newest_schema db opening × KeepsOtherTables desk_table_defs old db)

-- Where they weren't free and there was no valid state in a known version, nothing was changed.
abbrev pub UnknownTablesAreKept : Type 0
UnknownTablesAreKept = (old : Database) → IsDatabase old → (AreFree desk_table_defs old.schema → ⊥) → ((version : ℕ) (s : State) → ¬ HoldsValidState version old s) → (db : Database) → IsOpenedAfter old db → db ≡ old

-- ---- marks

-- The rows of table mark are just the pairs of an open recall and a lot or batch that it reaches, each once.
pub record HasMarks (db : Database) (s : State) : Type 0 where
  pub rows : List Mark
  pub represents : HasStoredRows db mark_table (map row_of_mark rows)
  pub once : IsStrictlySortedBy mark_order rows
  pub pairs : (m : Mark) → Contains rows m ↔ Reaches s.recalls (edges_of s) m.recall (node_of m)

-- So it is in each database that holds the tables of a state.
abbrev pub MarksAreReached : Type 0
MarksAreReached = (db : Database) (s : State) → HoldsTables db (tables_of newest_schema s) → HasMarks db s
