-- What a database shows.
use Rattle.std.specs.Prelude.{◌≡◌}
use Rattle.sqlite.specs.Effect.{Database}
use Rattle.plant_base.specs.{State, newest_schema}
use Rattle.plant_view.specs.{tables_of}
use Rattle.plant_invariant.specs.StateInvariant.{StateInvariant}
use Rattle.plant_tables.specs.{HoldsTables}
use Rattle.plant_keyed.specs.StateShown.{abstraction}

-- a database that holds the tables of a valid state shows that state
abbrev pub AbstractionIsState : Type 0
AbstractionIsState = (db : Database) (s : State) → StateInvariant s → HoldsTables db (tables_of newest_schema s) → abstraction db ≡ s
