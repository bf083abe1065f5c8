-- A query that has given a row.
use Rattle.std.specs.Prelude.{ℕ, ◌<◌, List, length}
use Rattle.sqlite_value.specs.Order.{Row}
use Rattle.sqlite_trees.specs.declared.store.Store.{Ghosts}
use Rattle.sqlite.specs.Held.{Held}
use Rattle.sqlite.specs.Given.{HasGiven}

-- the connection runs this query, and has given at least one row of its answer
abbrev pub HasGivenRow : {S : Type 0} → Ghosts S → List ℕ → Row → Held S → Type 0
HasGivenRow g sql params h = (given : List Row) × HasGiven g sql params h given × (0 < length given)
