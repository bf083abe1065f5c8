-- The JSON trees of traces.
use Rattle.std.specs.Prelude.{List, map, codes}
use Rattle.serde_json.specs.Data.{Data, Items, string, array, object, member, no_members}
use Rattle.serde_json.specs.View.{items_of}
use Rattle.plant_trace.specs.{Node}
use Rattle.plant_trace.specs.declared.node.Node.TheVariants.{Lot, Batch}

abbrev pub node_data : Node → Data
node_data (Lot id) = object (member (codes "lot") (string id) no_members)
node_data (Batch id) = object (member (codes "batch") (string id) no_members)

abbrev pub nodes_data : List Node → Items
nodes_data nodes = items_of (map node_data nodes)

abbrev pub trace_data : List Node → Data
trace_data nodes = object (member (codes "nodes") (array (nodes_data nodes)) no_members)
