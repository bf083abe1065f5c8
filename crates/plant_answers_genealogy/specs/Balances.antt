-- What entered the lots around a lot or batch, what left them, and what is there.
use Rattle.std.specs.Prelude.{ℕ, ◌+◌, ◌-◌, ◌^◌, Bool, true, false, ◌&&◌, if◌then◌else◌, List, Option, Some, None, option_map, filter_map, min, sum_by}
use Rattle.plant_base.specs.{State, definition_at, lot_at, Lot, Movement, MovementKind, Refusal}
use Rattle.plant_base.specs.declared.rows.MovementKind.TheVariants as kind
use Rattle.plant_stock.specs.{comes_from, goes_to, is_in_lot}
use Rattle.plant_trace.specs.{Node}
use Rattle.plant_trace.specs.declared.direction.Direction.TheVariants.{Forward}
use Rattle.plant_trace.specs.declared.node.Node.TheVariants as node
use Rattle.plant_answers_genealogy.specs.declared.balances.Flow.{Flow}
use Rattle.plant_answers_genealogy.specs.declared.balances.Flow.TheVariants as flow
use Rattle.plant_answers_genealogy.specs.StandingLots.{standing_lot}
use Rattle.plant_answers_genealogy.specs.Surroundings.{nodes_around}
use Rattle.plant_questions.specs.{Answer, LotBalance, LotFlows}
use Rattle.plant_questions.specs.declared.question.Answer.TheVariants as A

-- a number, as far as 64 bits hold it
abbrev pub in_64_bits : ℕ → ℕ
in_64_bits n = min n (2 ^ 64 - 1)

-- a movement of this kind makes the flow
abbrev pub is_flow : Flow → MovementKind → Bool
is_flow flow.Received kind.Received = true
is_flow flow.Produced (kind.Produced batch) = true
is_flow flow.SplitIn (kind.Split to) = true
is_flow flow.MergedIn (kind.Merged to) = true
is_flow flow.Consumed (kind.Consumed batch) = true
is_flow flow.Scrapped kind.Scrapped = true
is_flow flow.SplitOut (kind.Split to) = true
is_flow flow.MergedOut (kind.Merged to) = true
is_flow _ _ = false

-- the flow enters lots; the others leave them
abbrev pub enters : Flow → Bool
enters flow.Received = true
enters flow.Produced = true
enters flow.SplitIn = true
enters flow.MergedIn = true
enters _ = false

-- the sublot that the movement brings its amount to, or the one that it takes it from
abbrev pub side_of : Flow → Movement → Option (List ℕ × ℕ)
side_of f m = if enters f then goes_to m.kind m.lot m.sub else comes_from m.kind m.lot m.sub

-- the amount of the movement, where it makes the flow of the lot
abbrev pub moved : Flow → List ℕ → Movement → ℕ
moved f lot m = if is_flow f m.kind && is_in_lot (side_of f m) lot then m.amount else 0

-- over all movements
abbrev pub flow_of : State → List ℕ → Flow → ℕ
flow_of s lot f = sum_by (moved f lot) s.movements

abbrev pub flows_of : State → List ℕ → LotFlows
flows_of s lot = record {
  received = flow_of s lot flow.Received;
  produced = flow_of s lot flow.Produced;
  split_in = flow_of s lot flow.SplitIn;
  merged_in = flow_of s lot flow.MergedIn;
  consumed = flow_of s lot flow.Consumed;
  scrapped = flow_of s lot flow.Scrapped;
  split_out = flow_of s lot flow.SplitOut;
  merged_out = flow_of s lot flow.MergedOut;
}

-- all that entered the lot, and all that left it
abbrev pub entered_in_all : LotFlows → ℕ
entered_in_all f = f.received + f.produced + f.split_in + f.merged_in

abbrev pub left_in_all : LotFlows → ℕ
left_in_all f = f.consumed + f.scrapped + f.split_out + f.merged_out

abbrev pub lot_balance : State → Lot → LotBalance
lot_balance s l = record {
  standing = standing_lot s l;
  unit = option_map (λ d. d.unit) (definition_at s l.def);
  flows = flows_of s l.id;
}

-- of a lot that is there
abbrev pub balance_if : State → Option Lot → Option LotBalance
balance_if s None = None
balance_if s (Some l) = Some (lot_balance s l)

-- of a node that is a lot
abbrev pub balance_at : State → Node → Option LotBalance
balance_at s (node.Lot id) = balance_if s (lot_at s id)
balance_at s (node.Batch id) = None

-- of the lots that the start is and leads to
abbrev pub balances_around : State → Node → List LotBalance
balances_around s start = filter_map (balance_at s) (nodes_around s Forward start)

abbrev pub answer_balance : State → Node → Option Refusal → Answer
answer_balance s start None = A.Balance (balances_around s start)
answer_balance s start (Some refusal) = A.Unknown refusal
