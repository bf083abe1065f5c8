-- How a set of nodes and a queue of them grow.
use Rattle.std.specs.Prelude.{◌≡◌, ◌≤◌, ℕ, List, length, take, Contains, ◌⊎◌}
use Rattle.plant_trace.specs.declared.node.Node.{Node}

-- new has the nodes of old and these, and no others; where it is no longer, it is old
pub record Adds (nodes old new : List Node) : Type 0 where
  pub keeps : (y : Node) → Contains old y → Contains new y
  pub takes : (y : Node) → Contains nodes y → Contains new y
  pub only : (y : Node) → Contains new y → Contains old y ⊎ Contains nodes y
  pub longer : length old ≤ length new
  pub still : length new ≤ length old → new ≡ old

-- the list has the nodes of the set
pub record HasSame (seen queue : List Node) : Type 0 where
  pub all : (y : Node) → Contains seen y → Contains queue y
  pub only : (y : Node) → Contains queue y → Contains seen y

-- the list got what the set got, at its end
pub record Queues (seen seen' queue queue' : List Node) : Type 0 where
  pub prefix : (n : ℕ) → n ≤ length queue → take n queue' ≡ take n queue
  pub longer : length queue ≤ length queue'
  pub same : HasSame seen queue → HasSame seen' queue'
