-- Which recalls reach a node, by what leads to it.
use Rattle.std.specs.Prelude.{Bool, ◌&&◌, ◌||◌, List}
use Rattle.std.specs.List.{list_any}
use Rattle.plant_base.specs.{is_open, Recall}
use Rattle.plant_trace.specs.{node_eq, Node}
use Rattle.plant_trace.specs.declared.node.Node.TheVariants as node

abbrev pub reaches_by : List Node → Node → Recall → Bool
reaches_by before y r = is_open r && (node_eq y (node.Lot r.lot) || list_any (λ x. node_eq x (node.Lot r.lot)) before)
