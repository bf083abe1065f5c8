-- What holds in valid states of the rows of tables that commands change: no row that is added has the key of another.
use Rattle.std.specs.Prelude.{◌≡◌, ℕ, true, List}
use Rattle.plant_base.specs.{State, newest_schema, HasValues, Envelope}
use Rattle.plant_view.specs.{puts_one_batch, tables_of, changed_all, RowChange}
use Rattle.plant_rules.specs.{step}
use Rattle.plant_invariant.specs.StateInvariant.{StateInvariant}
use Rattle.plant_tables.specs.{AreKeyed, AreFresh}

-- ---- laws

-- in each schema, the rows of a valid state's tables are in the order of their keys
abbrev pub InvariantImpliesKeys : Type 0
InvariantImpliesKeys = (schema : ℕ) (s : State) → StateInvariant s → AreKeyed (tables_of schema s)

-- changes that make the tables after a command of those before it add each row under a key of its own
abbrev pub StepIsFresh : Type 0
StepIsFresh = (s : State) → StateInvariant s → (e : Envelope) → HasValues e → (rows : List RowChange)
    → changed_all rows (tables_of newest_schema s) ≡ tables_of newest_schema (step s e) → puts_one_batch rows ≡ true → AreFresh rows (tables_of newest_schema s)
