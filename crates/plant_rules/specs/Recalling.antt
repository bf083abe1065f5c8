-- Recalls: when they are refused, and what they add and lift.
use Rattle.std.specs.Prelude.{ℕ, ◌+◌, ◌&&◌, nat_lt, Bool, false, not, List, [], ◌∷◌, Option, Some, None, is_some, is_none, map}
use Rattle.plant_base.specs.{is_open, State, newest_schema, put, recall_order, lot_at, recall_at, LiftRecall, Lot, Recall, RecallLot, Refusal, Stamp, greatest_seq}
use Rattle.plant_base.specs.declared.refusal.Refusal.TheVariants.{Exists, UnknownLot, UnknownRecall, RecallLifted, TooMany}
use Rattle.plant_trace.specs.{Node}
use Rattle.plant_view.specs.{mark_on, refuse, at_limit, RowChange}
use Rattle.plant_view.specs.declared.change.RowChange.TheVariants as row

-- ---- a recall

abbrev pub wrong_recall : State → RecallLot → Option Refusal
wrong_recall s c =
    refuse (is_none (lot_at s c.lot)) UnknownLot
    (refuse (is_some (recall_at s c.recall)) Exists
    (refuse (at_limit s) TooMany None))

-- nothing bars the recall, by what was found of it
abbrev pub may_open : ℕ → Option Lot → Option Recall → Bool
may_open seq lot known = is_some lot && is_none known && nat_lt seq greatest_seq

abbrev pub opened : Stamp → RecallLot → Recall
opened t c = record { id = c.recall; lot = c.lot; at = t.at; by = t.by; note = t.note; lifting = None }

abbrev pub recall : State → Stamp → RecallLot → State
recall s t c = record s { seq = s.seq + 1; at = t.at; recalls = put recall_order (opened t c) s.recalls }

-- the rows of an accepted recall that reaches these nodes
abbrev pub recall_rows : ℕ → Stamp → RecallLot → List Node → List RowChange
recall_rows seq t c nodes =
    row.Meta (record { schema = newest_schema; position = record { seq = seq + 1; at = t.at } })
    ∷ row.Recall (opened t c)
    ∷ map row.Mark (map (mark_on c.recall) nodes)

-- ---- a lift

-- the recall is there, and was lifted
abbrev pub was_lifted : Option Recall → Bool
was_lifted None = false
was_lifted (Some r) = not (is_open r)

abbrev pub wrong_lift : State → LiftRecall → Option Refusal
wrong_lift s c =
    refuse (is_none (recall_at s c.recall)) UnknownRecall
    (refuse (at_limit s) TooMany
    (refuse (was_lifted (recall_at s c.recall)) RecallLifted None))

abbrev pub lifted : Stamp → Recall → Recall
lifted t r = record r { lifting = Some (record { at = t.at; by = t.by; note = t.note }) }

-- the recalls with this one lifted, where it is there
abbrev pub with_lifted : Stamp → Option Recall → List Recall → List Recall
with_lifted t None rs = rs
with_lifted t (Some r) rs = put recall_order (lifted t r) rs

abbrev pub lift : State → Stamp → LiftRecall → State
lift s t c = record s { seq = s.seq + 1; at = t.at; recalls = with_lifted t (recall_at s c.recall) s.recalls }

-- the rows of an accepted lift of this recall
abbrev pub lift_rows : ℕ → Stamp → Recall → List RowChange
lift_rows seq t r =
    row.Meta (record { schema = newest_schema; position = record { seq = seq + 1; at = t.at } })
    ∷ row.Recall (lifted t r)
    ∷ row.Unmark r.id
    ∷ []
