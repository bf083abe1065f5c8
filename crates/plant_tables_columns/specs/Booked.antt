-- The movement that a row of table movement books, where its columns are those of its kind.
use Rattle.std.specs.Prelude.{ℕ, ◌==◌, Bool, false, ◌&&◌, List, Option, Some, None, is_none, option_map, if◌then◌else◌}
use Rattle.plant_base.specs.{same, Movement, MovementKind}
use Rattle.plant_base.specs.declared.rows.MovementKind.TheVariants as kind
use Rattle.plant_tables_columns.specs.declared.booked.MovementKindCode.{MovementKindCode}
use Rattle.plant_tables_columns.specs.declared.booked.MovementKindCode.TheVariants as kind_code
use Rattle.plant_tables_columns.specs.declared.booked.BookedRow.{BookedRow}
use Rattle.plant_view.specs.{batch_by}

abbrev pub names_nothing : BookedRow → Bool
names_nothing r = is_none r.lot2 && is_none r.sub2 && is_none r.batch

-- the batch, where that alone is named
abbrev pub batch_named : BookedRow → Option (List ℕ)
batch_named r = if is_none r.lot2 && is_none r.sub2 then r.batch else None

abbrev pub is_zero : Option ℕ → Bool
is_zero None = false
is_zero (Some n) = n == 0

-- the lot of which sublot 0 is named, and no batch
abbrev pub lot_named : BookedRow → Option (List ℕ)
lot_named r = if is_zero r.sub2 && is_none r.batch then r.lot2 else None

abbrev pub is_lot : List ℕ → Option (List ℕ) → Bool
is_lot id None = false
is_lot id (Some other) = same other id

-- the sublot of the same lot that is named, and no batch
abbrev pub sublot_named : BookedRow → Option ℕ
sublot_named r = if is_lot r.lot r.lot2 && is_none r.batch then r.sub2 else None

-- what a movement of this sort does, where the row names just what the sort asks for
abbrev pub kind_of_code : MovementKindCode → BookedRow → Option MovementKind
kind_of_code kind_code.Received r = if names_nothing r then Some kind.Received else None
kind_of_code kind_code.Consumed r = option_map kind.Consumed (batch_named r)
kind_of_code kind_code.Produced r = option_map kind.Produced (batch_named r)
kind_of_code kind_code.Scrapped r = if names_nothing r then Some kind.Scrapped else None
kind_of_code kind_code.Divided r = option_map kind.Divided (sublot_named r)
kind_of_code kind_code.Split r = option_map kind.Split (lot_named r)
kind_of_code kind_code.Merged r = option_map kind.Merged (lot_named r)

abbrev pub kind_from : BookedRow → Option MovementKind
kind_from r = kind_of_code r.kind_code r

-- the row's movement, of this kind
abbrev pub moved_as : BookedRow → MovementKind → Movement
moved_as r k = record {
  seq = r.seq;
  line = r.line;
  kind = k;
  lot = r.lot;
  sub = r.sub;
  amount = r.amount;
  at = r.at;
  by = r.by;
  note = r.note;
}

-- the movement of a row whose columns are those of its kind
unfoldable pub movement_from : BookedRow → Option Movement
movement_from r = option_map (moved_as r) (kind_from r)

-- ---- the row that books a movement

abbrev pub code_of : MovementKind → MovementKindCode
code_of kind.Received = kind_code.Received
code_of (kind.Consumed batch) = kind_code.Consumed
code_of (kind.Produced batch) = kind_code.Produced
code_of kind.Scrapped = kind_code.Scrapped
code_of (kind.Divided to) = kind_code.Divided
code_of (kind.Split to) = kind_code.Split
code_of (kind.Merged to) = kind_code.Merged

abbrev pub other_lot : MovementKind → List ℕ → Option (List ℕ)
other_lot kind.Received lot = None
other_lot (kind.Consumed batch) lot = None
other_lot (kind.Produced batch) lot = None
other_lot kind.Scrapped lot = None
other_lot (kind.Divided to) lot = Some lot
other_lot (kind.Split to) lot = Some to
other_lot (kind.Merged to) lot = Some to

abbrev pub other_sublot : MovementKind → Option ℕ
other_sublot kind.Received = None
other_sublot (kind.Consumed batch) = None
other_sublot (kind.Produced batch) = None
other_sublot kind.Scrapped = None
other_sublot (kind.Divided to) = Some to
other_sublot (kind.Split to) = Some 0
other_sublot (kind.Merged to) = Some 0

abbrev pub booked_of : Movement → BookedRow
booked_of m = record {
  seq = m.seq;
  line = m.line;
  kind_code = code_of m.kind;
  lot = m.lot;
  sub = m.sub;
  lot2 = other_lot m.kind m.lot;
  sub2 = other_sublot m.kind;
  batch = batch_by m.kind;
  amount = m.amount;
  at = m.at;
  by = m.by;
  note = m.note;
}
