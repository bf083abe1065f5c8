-- The JSON trees of the genealogy around a lot or batch.
use Rattle.std.specs.Prelude.{codes}
use Rattle.serde_json.specs.Data.{Data, boolean, string, object, member, no_members}
use Rattle.plant_trace.specs.declared.node.Node.TheVariants.{Batch}
use Rattle.plant_view.specs.{ends_of}
use Rattle.plant_questions.specs.{BookedEdge, Genealogy, LotNode, NodeAnswer}
use Rattle.plant_questions.specs.declared.genealogy.NodeAnswer.TheVariants as known
use Rattle.plant_text_answers.specs.ListAnswers.{rows_data}
use Rattle.plant_text_answers.specs.Natural.{natural}
use Rattle.plant_text_answers.specs.TraceAnswers.{node_data}

abbrev pub lot_node_data : LotNode → Data
lot_node_data l = object (member (codes "def") (string l.def) (member (codes "held") (boolean l.held) (member (codes "lot") (string l.lot)
    (member (codes "recalled") (boolean l.recalled) (member (codes "stock") (natural l.stock) (member (codes "unit") (string l.unit) no_members))))))

abbrev pub node_item : NodeAnswer → Data
node_item (known.Lot l) = lot_node_data l
node_item (known.Batch id) = node_data (Batch id)

abbrev pub edge_item : BookedEdge → Data
edge_item b = object (member (codes "amount") (natural b.amount) (member (codes "from") (node_data (ends_of b.edge).0) (member (codes "to") (node_data (ends_of b.edge).1) no_members)))

abbrev pub genealogy_data : Genealogy → Data
genealogy_data g = object (member (codes "edges") (rows_data edge_item g.edges) (member (codes "nodes") (rows_data node_item g.nodes) no_members))
