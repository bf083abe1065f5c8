-- What lies around a lot or batch in the genealogy, and where its goods are.
use Rattle.std.specs.Prelude.{◌≡◌, ◌<◌, ◌⊎◌, List, Option, Some, None, filter_map}
use Rattle.std.specs.declared.cmp.Ordering.{Ordering}
use Rattle.plant_base.specs.{State, id_cmp, lot_at, put, Lot, Refusal}
use Rattle.plant_trace.specs.{node_cmp, IsReached, Direction, Node}
use Rattle.plant_trace.specs.declared.direction.Direction.TheVariants.{Forward}
use Rattle.plant_trace.specs.declared.node.Node.TheVariants as node
use Rattle.plant_view.specs.{edges_of}
use Rattle.plant_answers_genealogy.specs.Traces.{trace_of}
use Rattle.plant_answers_genealogy.specs.StandingLots.{standing_lot, stocked_lot}
use Rattle.plant_questions.specs.{Answer, StandingLot}
use Rattle.plant_questions.specs.declared.question.Answer.TheVariants as A

-- the start and its trace: lots before batches, each ascending
abbrev pub nodes_around : State → Direction → Node → List Node
nodes_around s direction start = put node_cmp start (trace_of s direction start)

-- the node is the start, or the least relation reaches it from there
abbrev pub IsAround : State → Direction → Node → Node → Type 0
IsAround s direction start y = (y ≡ start) ⊎ IsReached direction (edges_of s) start y

-- ---- where goods are

-- what is known of a lot that is there, where it has stock
abbrev pub stocked_if : State → Option Lot → Option StandingLot
stocked_if s None = None
stocked_if s (Some l) = stocked_lot s l

-- of a node that is a lot
abbrev pub stocked_at : State → Node → Option StandingLot
stocked_at s (node.Lot id) = stocked_if s (lot_at s id)
stocked_at s (node.Batch id) = None

-- the lots that have stock, of the start and all that it leads to
abbrev pub lots_standing : State → Node → List StandingLot
lots_standing s start = filter_map (stocked_at s) (nodes_around s Forward start)

abbrev pub answer_stands : State → Node → Option Refusal → Answer
answer_stands s start None = A.Stands (lots_standing s start)
answer_stands s start (Some refusal) = A.Unknown refusal

-- what is known of a lot that is there, that the start is or leads to, and that has stock
pub record StandsFrom (s : State) (start : Node) (a : StandingLot) : Type 0 where
  pub lot : Lot
  pub reached : IsAround s Forward start (node.Lot a.known.lot)
  pub there : lot_at s a.known.lot ≡ Some lot
  pub reported : a ≡ standing_lot s lot
  pub stocked : 0 < a.known.stock

abbrev pub standing_order : StandingLot → StandingLot → Ordering
standing_order a b = id_cmp a.known.lot b.known.lot
