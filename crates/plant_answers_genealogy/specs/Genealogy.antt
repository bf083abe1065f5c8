-- The genealogy around a lot or batch: its nodes, and the edges between them with what was booked along each.
use Rattle.std.specs.Prelude.{ℕ, Bool, false, ◌&&◌, if◌then◌else◌, List, Option, Some, None, option_map, filter, map, sum_by, filter_map}
use Rattle.std.specs.List.{list_any}
use Rattle.plant_base.specs.{edge_eq, State, definition_at, lot_at, Definition, EdgeRow, Lot, Movement, Refusal}
use Rattle.plant_trace.specs.{node_eq, Direction, Node}
use Rattle.plant_trace.specs.declared.node.Node.TheVariants as node
use Rattle.plant_view.specs.{edge_row_of, edge_rows, ends_of, is_blocked, is_held}
use Rattle.plant_answers_genealogy.specs.Surroundings.{nodes_around}
use Rattle.plant_answers_genealogy.specs.LotAnswers.{lot_answer}
use Rattle.plant_questions.specs.{Answer, BookedEdge, Genealogy, LotNode, NodeAnswer}
use Rattle.plant_questions.specs.declared.genealogy.NodeAnswer.TheVariants as known
use Rattle.plant_questions.specs.declared.question.Answer.TheVariants as A

-- ---- nodes

-- a lot of this definition
abbrev pub lot_node : State → Lot → Definition → LotNode
lot_node s l d = record {
  lot = l.id;
  def = l.def;
  unit = d.unit;
  held = is_held s l.id;
  recalled = is_blocked s l.id;
  stock = (lot_answer s l).stock;
}

-- a lot that is there, as its definition is in a consistent state
abbrev pub node_if : State → Option Lot → Option NodeAnswer
node_if s None = None
node_if s (Some l) = option_map (λ d. known.Lot (lot_node s l d)) (definition_at s l.def)

-- what is known of a node
abbrev pub node_answer : State → Node → Option NodeAnswer
node_answer s (node.Lot id) = node_if s (lot_at s id)
node_answer s (node.Batch id) = Some (known.Batch id)

-- the node of the answer
abbrev pub named : NodeAnswer → Node
named (known.Lot l) = node.Lot l.lot
named (known.Batch id) = node.Batch id

-- ---- edges

-- the node is one of these
abbrev pub is_among : List Node → Node → Bool
is_among nodes y = list_any (λ x. node_eq x y) nodes

-- both ends of the edge are
abbrev pub is_between : List Node → EdgeRow → Bool
is_between nodes e = is_among nodes (ends_of e).0 && is_among nodes (ends_of e).1

-- the edge that a movement makes, if it makes one, is this one
abbrev pub is_made : EdgeRow → Option EdgeRow → Bool
is_made e None = false
is_made e (Some x) = edge_eq x e

-- what a movement books along the edge
abbrev pub booked_along : EdgeRow → Movement → ℕ
booked_along e m = if is_made e (edge_row_of m) then m.amount else 0

-- the amounts of all movements that make the edge
abbrev pub amount_of : List Movement → EdgeRow → ℕ
amount_of movements e = sum_by (booked_along e) movements

abbrev pub booked_edge : List Movement → EdgeRow → BookedEdge
booked_edge movements e = record { edge = e; amount = amount_of movements e }

-- the edges between the nodes, in the order of table edge, each with what was booked along it
abbrev pub edges_between : List Movement → List Node → List BookedEdge
edges_between movements nodes = map (booked_edge movements) (filter (is_between nodes) (edge_rows movements))

-- ---- the answer

abbrev pub genealogy_around : State → Direction → Node → Genealogy
genealogy_around s direction start = record {
  nodes = filter_map (node_answer s) (nodes_around s direction start);
  edges = edges_between s.movements (nodes_around s direction start);
}

abbrev pub answer_edges : State → Direction → Node → Option Refusal → Answer
answer_edges s direction start None = A.Edges (genealogy_around s direction start)
answer_edges s direction start (Some refusal) = A.Unknown refusal
