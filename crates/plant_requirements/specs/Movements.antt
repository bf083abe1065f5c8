-- What movements name, and what their definitions are.
use Rattle.std.specs.Prelude.{ℕ, Bool, true, false, not, ◌&&◌, ◌||◌, ◌==◌, nat_le, List, [], ◌∷◌, length, filter, Option, Some, None, find}
use Rattle.std.specs.List.{list_any, list_all}
use Rattle.plant_base.specs.{same, BatchRow, ControlLine, Lot, Movement, MovementKind, Sublot}
use Rattle.plant_base.specs.declared.rows.MovementKind.TheVariants as kind
use Rattle.plant_stock.specs.{goes_to, comes_from, is_one_source, greatest_parts}
use Rattle.plant_view.specs.{batch_by, control_among, is_taken, is_made}
use Rattle.plant_requirements.specs.Batches.{is_row_among}

-- ---- what is named is there

-- the sublot, where one is named, is there
abbrev pub is_there : List Sublot → Option (List ℕ × ℕ) → Bool
is_there sublots None = true
is_there sublots (Some k) = list_any (λ s. same s.lot k.0 && s.number == k.1) sublots

-- the batch, where one is named, is there
abbrev pub is_batch_there : List BatchRow → Option (List ℕ) → Bool
is_batch_there batches None = true
is_batch_there batches (Some id) = is_row_among batches id

abbrev pub names_known : List Sublot → List BatchRow → Movement → Bool
names_known sublots batches m =
    is_there sublots (goes_to m.kind m.lot m.sub)
    && is_there sublots (comes_from m.kind m.lot m.sub)
    && is_batch_there batches (batch_by m.kind)

-- ---- definitions

abbrev pub lot_among : List Lot → List ℕ → Option Lot
lot_among lots id = find (λ l. same l.id id) lots

-- both lots are there, and of one definition
abbrev pub are_of_one : Option Lot → Option Lot → Bool
are_of_one (Some a) (Some b) = same a.def b.def
are_of_one (Some a) None = false
are_of_one None b = false

-- the lot is there, and an in line of the control recipe asks for its definition
abbrev pub is_asked_for : List ControlLine → Option Lot → Bool
is_asked_for lines None = false
is_asked_for lines (Some l) = is_taken lines l.def

-- the lot is there, and an out line of the control recipe has its definition
abbrev pub is_yielded : List ControlLine → Option Lot → Bool
is_yielded lines None = false
is_yielded lines (Some l) = is_made lines l.def

-- what goes from one lot to another is of one definition, and a batch takes and makes what its control recipe says
abbrev pub is_of_right_definition : List Lot → List ControlLine → MovementKind → List ℕ → Bool
is_of_right_definition lots control kind.Received lot = true
is_of_right_definition lots control (kind.Consumed batch) lot = is_asked_for (control_among control batch) (lot_among lots lot)
is_of_right_definition lots control (kind.Produced batch) lot = is_yielded (control_among control batch) (lot_among lots lot)
is_of_right_definition lots control kind.Scrapped lot = true
is_of_right_definition lots control (kind.Divided to) lot = true
is_of_right_definition lots control (kind.Split to) lot = are_of_one (lot_among lots lot) (lot_among lots to)
is_of_right_definition lots control (kind.Merged to) lot = are_of_one (lot_among lots lot) (lot_among lots to)

-- ---- merges

abbrev pub is_merged : MovementKind → Bool
is_merged (kind.Merged to) = true
is_merged _ = false

-- the parts of the merge of this number
abbrev pub parts_of : List Movement → ℕ → List Movement
parts_of ms seq = filter (λ m. is_merged m.kind && m.seq == seq) ms

-- no two of them name one pair of lot and sublot
abbrev pub are_distinct : List Movement → Bool
are_distinct [] = true
are_distinct (m ∷ ms) = not (list_any (is_one_source m) ms) && are_distinct ms

-- at most 16 parts, of distinct pairs of lot and sublot
abbrev pub are_parts : List Movement → Bool
are_parts ms = nat_le (length ms) greatest_parts && are_distinct ms

abbrev pub is_of_right_merge : List Movement → Movement → Bool
is_of_right_merge ms m = not (is_merged m.kind) || are_parts (parts_of ms m.seq)

-- ---- all of it

unfoldable pub is_right_movement : List Lot → List Sublot → List BatchRow → List ControlLine → List Movement → Movement → Bool
is_right_movement lots sublots batches control ms m =
    names_known sublots batches m
    && is_of_right_definition lots control m.kind m.lot
    && is_of_right_merge ms m

abbrev pub are_movements : List Lot → List Sublot → List BatchRow → List ControlLine → List Movement → Bool
are_movements lots sublots batches control ms = list_all (is_right_movement lots sublots batches control ms) ms
