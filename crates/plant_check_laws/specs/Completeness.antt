-- The tables of valid states, in each schema: they break no rule, and a desk reads them again.
use Rattle.std.specs.Prelude.{◌≡◌, ℕ, Some, None}
use Rattle.sqlite.specs.Effect.{Database}
use Rattle.plant_base.specs.{State}
use Rattle.plant_view.specs.{tables_of}
use Rattle.plant_invariant.specs.StateInvariant.{StateInvariant}
use Rattle.plant_tables.specs.{HoldsTablesOf}
use Rattle.plant_tables.specs.{AreLoaded, IsKnown, Loaded, rows_from, rows_in, AreInOrder}
use Rattle.plant_tables_columns.specs.{HasValidValues}
use Rattle.plant_check_rules.specs.{first_broken_of, first_broken}

-- the rows of each table of a valid state are in the order of their keys, none with the key of another
abbrev pub InvariantImpliesOrder : Type 0
InvariantImpliesOrder = (schema : ℕ) (s : State) → StateInvariant s → AreInOrder (tables_of schema s)

-- and each value obeys its rule
abbrev pub InvariantImpliesValues : Type 0
InvariantImpliesValues = (schema : ℕ) (s : State) → IsKnown schema → StateInvariant s → HasValidValues (tables_of schema s)

-- they break no rule
abbrev pub InvariantImpliesChecksPass : Type 0
InvariantImpliesChecksPass = (schema : ℕ) (s : State) → StateInvariant s → first_broken_of (rows_in (tables_of schema s)) ≡ None

-- what is loaded from a database that holds them is read as their rows, and breaks no rule
abbrev pub InvariantImpliesReadBack : Type 0
InvariantImpliesReadBack = (schema : ℕ) (db : Database) (s : State) (x : Loaded) → IsKnown schema → StateInvariant s → HoldsTablesOf schema db (tables_of schema s) → AreLoaded schema db x
    → (rows_from x ≡ Some (rows_in (tables_of schema s))) × (first_broken x ≡ None)
