-- Positions: each node has one, in its layer, and no two nodes share one.
use Rattle.std.specs.Prelude.{◌≡◌, ℕ, List, Contains, Some, IsSome}
use Rattle.std.specs.BTreeMap.{BTreeMap, get}
use Rattle.std.specs.declared.cmp.Ordering.{Ordering}
use Rattle.genealogy_svg.specs.contracts.drawing.BoxPositionOrd.TheImpl.{ghosts as order}
use Rattle.genealogy_svg.specs.declared.drawing.BoxPosition.{BoxPosition}
use Rattle.plant_trace.specs.{node_cmp, rank_of, Node}

-- by layers, then from above
abbrev pub position_cmp : BoxPosition → BoxPosition → Ordering
position_cmp = order.cmp

-- each of these nodes has a position, in its layer, and no other node has one; no two nodes have the same
pub record ArePositioned (layers : BTreeMap Node ℕ) (nodes : List Node) (positions : BTreeMap Node BoxPosition) : Type 0 where
  pub each : (v : Node) → Contains nodes v → IsSome (get node_cmp positions v)
  pub only : (v : Node) (p : BoxPosition) → get node_cmp positions v ≡ Some p → Contains nodes v
  pub layered : (v : Node) (p : BoxPosition) → get node_cmp positions v ≡ Some p → p.layer ≡ rank_of layers v
  pub apart : (u v : Node) (p : BoxPosition) → get node_cmp positions u ≡ Some p → get node_cmp positions v ≡ Some p → u ≡ v
