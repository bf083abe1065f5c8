-- What a reader looks for in the answers and tables of a state.
use Rattle.std.specs.Prelude.{◌≡◌, ◌↔◌, ◌+◌, ℕ, true, false, List, [], pos, Some, None, map, Contains}
use Rattle.std.specs.List.Sorted.{IsStrictlySortedBy}
use Rattle.std.specs.declared.cmp.Ordering.{Ordering}
use Rattle.plant_base.specs.{edge_order, is_open, mark_order, State, newest_schema, id_cmp, lot_at, recall_at, Lot, Mark, Movement, Place, Recall}
use Rattle.plant_stock.specs.{stock}
use Rattle.plant_trace.specs.{IsReached, Lists, IsRecalled, Direction, Node}
use Rattle.plant_trace.specs.declared.direction.Direction.TheVariants.{Forward}
use Rattle.plant_trace.specs.declared.node.Node.TheVariants as node
use Rattle.plant_view.specs.{edge_row_of, edges_of, ends_of, Reaches, node_of, state_without_kept, tables_of, IsWholeIn, sublot_row}
use Rattle.plant_view.specs.DecisionInvariant.{DecisionInvariant}
use Rattle.plant_answers.specs.Answers.{answer}
use Rattle.plant_answers_genealogy.specs.{IsAround, StandsFrom, amount_of, entered_in_all, left_in_all, lot_balance, missing, named, standing_order}
use Rattle.plant_questions.specs.{BookedEdge, Genealogy, LotBalance, RecallAnswer, StandingLot}
use Rattle.plant_questions.specs.declared.question.Question.TheVariants as Q
use Rattle.plant_questions.specs.declared.question.Answer.TheVariants as A

-- The trace of a node that is there lists just what the least relation reaches: each such node once, ascending, and no other.
abbrev pub TracesListReached : Type 0
TracesListReached = (k : ℕ) (s : State) (direction : Direction) (start : Node) → missing s start ≡ None
    → (nodes : List Node) × (answer k s (Q.Trace direction start) ≡ A.Trace nodes) × Lists (IsReached direction (edges_of s) start) nodes

-- Where the goods of a lot or batch are that is there: the answer lists just such lots, ascending, each once, and no other.
abbrev pub StandsListReached : Type 0
StandsListReached = (k : ℕ) (s : State) (start : Node) → missing s start ≡ None
    → (lots : List StandingLot) × (answer k s (Q.Stands start) ≡ A.Stands lots) × IsStrictlySortedBy standing_order lots
    × ((a : StandingLot) → Contains lots a ↔ StandsFrom s start a)

-- what entered a lot that is there, that the start is or leads to, what left it, and what is there of it
pub record BalancedFrom (s : State) (start : Node) (b : LotBalance) : Type 0 where
  pub lot : Lot
  pub reached : IsAround s Forward start (node.Lot b.standing.known.lot)
  pub there : lot_at s b.standing.known.lot ≡ Some lot
  pub reported : b ≡ lot_balance s lot

abbrev pub balance_order : LotBalance → LotBalance → Ordering
balance_order a b = id_cmp a.standing.known.lot b.standing.known.lot

-- The balance of a lot or batch that is there: the answer lists just such lots, ascending, each once, and no other.
abbrev pub BalancesListReached : Type 0
BalancesListReached = (k : ℕ) (s : State) (start : Node) → missing s start ≡ None
    → (lots : List LotBalance) × (answer k s (Q.Balance start) ≡ A.Balance lots) × IsStrictlySortedBy balance_order lots
    × ((b : LotBalance) → Contains lots b ↔ BalancedFrom s start b)

-- In a consistent state all that entered a lot in the answer is all that left it and the stock that is there.
abbrev pub BalancesClose : Type 0
BalancesClose = (k : ℕ) (s : State) (start : Node) (lots : List LotBalance) → DecisionInvariant s → answer k s (Q.Balance start) ≡ A.Balance lots
    → (b : LotBalance) → Contains lots b → entered_in_all b.flows ≡ left_in_all b.flows + b.standing.known.stock

-- an edge between nodes around the start, with the amounts of all movements that make it
pub record IsBooked (s : State) (direction : Direction) (start : Node) (b : BookedEdge) : Type 0 where
  pub made : (m : Movement) × (Contains s.movements m × (edge_row_of m ≡ Some b.edge))
  pub first : IsAround s direction start (ends_of b.edge).0
  pub second : IsAround s direction start (ends_of b.edge).1
  pub amount : b.amount ≡ amount_of s.movements b.edge

abbrev pub booked_order : BookedEdge → BookedEdge → Ordering
booked_order a b = edge_order a.edge b.edge

-- The genealogy around a lot or batch that is there: its edges are just those between the start and what the least relation reaches from
-- it, each once, in the order of table edge, and each has the amounts of all movements that make it.
abbrev pub EdgesAreBooked : Type 0
EdgesAreBooked = (k : ℕ) (s : State) (direction : Direction) (start : Node) → missing s start ≡ None
    → (g : Genealogy) × (answer k s (Q.Edges direction start) ≡ A.Edges g) × IsStrictlySortedBy booked_order g.edges
    × ((b : BookedEdge) → Contains g.edges b ↔ IsBooked s direction start b)

-- In a consistent state its nodes are just the start and what the least relation reaches from it, each once, ascending.
abbrev pub NodesAreReached : Type 0
NodesAreReached = (k : ℕ) (s : State) (direction : Direction) (start : Node) → DecisionInvariant s → missing s start ≡ None
    → (g : Genealogy) × (answer k s (Q.Edges direction start) ≡ A.Edges g) × Lists (IsAround s direction start) (map named g.nodes)

-- The stock in the row of a sublot is the sum of what entered it less the sum of what left it.
abbrev pub ColumnIsStock : Type 0
ColumnIsStock = (s : State) → DecisionInvariant s → (p : Place) → pos (sublot_row s.movements p).stock ≡ stock s.movements p.lot p.number

-- The tables of a state that has no row which their schema lacks, less the columns that the model doesn't hold, are that state.
abbrev pub TablesRepresentState : Type 0
TablesRepresentState = (k : ℕ) (s : State) → IsWholeIn k s → state_without_kept (tables_of k s) ≡ s

-- the answer about a recall: its lot, whether it is open, and while it is just what it reaches, each such node once, ascending, and no
-- other
pub record AnswersRecall (s : State) (r : Recall) (a : RecallAnswer) : Type 0 where
  pub recall : a.recall ≡ r.id
  pub lot : a.lot ≡ r.lot
  pub state : a.is_open ≡ is_open r
  pub reached : is_open r ≡ true → Lists (IsRecalled (edges_of s) r.lot) a.nodes
  pub lifted : is_open r ≡ false → a.nodes ≡ []

-- A question about a recall that is there is answered with that recall.
abbrev pub RecallsListReached : Type 0
RecallsListReached = (k : ℕ) (s : State) (recall : List ℕ) (r : Recall) → recall_at s recall ≡ Some r
    → (a : RecallAnswer) × (answer k s (Q.Recall recall) ≡ A.Recall a) × AnswersRecall s r a

-- The marks in the tables of a state are just the pairs of an open recall and a node that it reaches, each once.
abbrev pub MarksAreThePairs : Type 0
MarksAreThePairs = (s : State) → IsStrictlySortedBy mark_order (tables_of newest_schema s).marks
    × ((m : Mark) → Contains (tables_of newest_schema s).marks m ↔ Reaches s.recalls (edges_of s) m.recall (node_of m))
