-- The tables of the desk that a database holds, and the premises under which a change of rows is a change of the tables.
use Rattle.std.specs.Prelude.{Bool, ◌≡◌, ℕ, ◌==◌, ◌&&◌, true, false, List, [], ◌∷◌, ⊤}
use Rattle.std.specs.List.{AllByRecursion}
use Rattle.sqlite.specs.Effect.{Database}
use Rattle.plant_base.specs.PlantState.{newest_schema, same}
use Rattle.plant_view.specs.{changed, changed_all, RowChange}
use Rattle.plant_view.specs.TableRows.{Tables}
use Rattle.plant_view.specs.declared.change.RowChange.TheVariants as change
use Rattle.sql_tables.specs.{HaveStoredRows, KeepsOtherTables}
use Rattle.plant_tables.specs.DeskTableDefs.{table_defs_of}
use Rattle.plant_tables.specs.DeskTables.{contents_of}
use Rattle.plant_tables.specs.KeyedRows.{AreKeyed, IsOfSchema}

-- The database is sound, and each table of the schema is declared as its definition says and has these rows.
abbrev pub HoldsTablesOf : ℕ → Database → Tables → Type 0
HoldsTablesOf schema db t = HaveStoredRows (table_defs_of schema) db (contents_of t)

-- those of the newest schema
abbrev pub HoldsTables : Database → Tables → Type 0
HoldsTables = HoldsTablesOf newest_schema

-- A row that is added at the end has a key that no row has, and a batch is of an order that no other batch is of.
abbrev pub IsFresh : RowChange → Tables → Type 0
IsFresh (change.Event r) t = AllByRecursion (λ e. (e.seq == r.seq) ≡ false) t.events
IsFresh (change.Movement r) t = AllByRecursion (λ m. (m.seq == r.seq && m.line == r.line) ≡ false) t.movements
IsFresh (change.Batch r) t = AllByRecursion (λ b. same b.batch.job r.batch.job ≡ true → same b.batch.id r.batch.id ≡ true) t.batches
IsFresh _ t = ⊤

-- each change is fresh in the tables that those before it made
abbrev pub AreFresh : List RowChange → Tables → Type 0
AreFresh [] t = ⊤
AreFresh (c ∷ more) t = IsFresh c t × AreFresh more (changed c t)

-- it has that of each change
abbrev pub AreOfSchema : ℕ → List RowChange → Type 0
AreOfSchema schema changes = AllByRecursion (IsOfSchema schema) changes

-- The changes were written, in one transaction or in part of one: from any tables of the schema that the one database
-- holds, with keys as above, the other holds the changed ones, and foreign tables are as they were.
abbrev pub MovesTablesOf : ℕ → List RowChange → Database → Database → Type 0
MovesTablesOf schema changes old new =
    (t : Tables) → AreKeyed t → AreFresh changes t → HoldsTablesOf schema old t → HoldsTablesOf schema new (changed_all changes t) × KeepsOtherTables (table_defs_of schema) old new

-- those of the newest schema
abbrev pub MovesTables : List RowChange → Database → Database → Type 0
MovesTables = MovesTablesOf newest_schema

-- the change adds this lot
abbrev pub adds_lot : List ℕ → RowChange → Bool
adds_lot lot (change.Lot r) = same r.id lot
adds_lot lot _ = false
