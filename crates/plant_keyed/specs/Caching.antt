-- What lookups remember: the position and the edges.
use Rattle.std.specs.Prelude.{◌≡◌, ◌↔◌, ℕ, ◌+◌, ◌/◌, min, Bool, true, false, nat_le, ◌&&◌, IfSome}
use Rattle.sqlite.specs.Effect.{Database}
use Rattle.sqlite.specs.State as store
use Rattle.plant_base.specs.{State}
use Rattle.plant_trace.specs.{Direction}
use Rattle.plant_trace.specs.declared.direction.Direction.TheVariants.{Forward, Back}
use Rattle.plant_view.specs.{edges_of, position_of}
use Rattle.plant_keyed.specs.Edges.{AreTurned}
use Rattle.plant_keyed.specs.LookupOutcomes.{IsHonest, IsReported}
use Rattle.plant_keyed.specs.StateShown.{abstraction}
use Rattle.plant_keyed.specs.declared.edge_cache.EdgeCache.{EdgeCache}
use Rattle.plant_keyed.specs.declared.lookup_cache.LookupCache.{LookupCache}

-- what is remembered, if edges were read, is all edges of the state
abbrev pub AreEdgesOf : State → EdgeCache → Type 0
AreEdgesOf s d = d.are_read ≡ true → AreTurned d.direction (edges_of s) d.links.items

-- what is remembered is true of the state: the position, if it was read, and the edges
pub record IsCacheOf (s : State) (c : LookupCache) : Type 0 where
  pub position : IfSome c.position (λ p. p ≡ position_of s)
  pub edges : AreEdgesOf s c.edges

-- where the lookups end honest, what is remembered is as true of the state that they show as what was remembered before
abbrev pub CacheStaysValid : Database → store.State → Bool → LookupCache → LookupCache → Type 0
CacheStaysValid old new failed was is = IsHonest new failed → IsCacheOf (abstraction old) was ↔ IsCacheOf (abstraction new.now) is

-- one more node asked for, counted up to the greatest number of 64 bits
abbrev pub one_more : ℕ → ℕ
one_more asked = min (asked + 1) 18446744073709551615

-- so few nodes that each is looked up, after so many commands: 256, and one for each 16 commands
abbrev pub are_few : ℕ → ℕ → Bool
are_few asked commands = nat_le asked (256 + commands / 16)

-- the two directions are one
abbrev pub is_same_way : Direction → Direction → Bool
is_same_way Forward Forward = true
is_same_way Back Back = true
is_same_way _ _ = false

-- edges were read, as this direction sees them
abbrev pub are_seen : Direction → EdgeCache → Bool
are_seen direction d = d.are_read && is_same_way d.direction direction

-- What lookups report of edges: the fact holds where what was remembered is true.
pub record IsTraced (old new : store.State) (had_failed has_failed : Bool) (was is : LookupCache) (fact : Type 0) : Type 0 where
  pub reported : IsReported old new had_failed has_failed (IsCacheOf (abstraction old.now) was → fact)
  pub stays : CacheStaysValid old.now new has_failed was is
