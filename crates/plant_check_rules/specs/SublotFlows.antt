-- What rows of table movement bring to a sublot and take from it, as their columns say.
use Rattle.std.specs.Prelude.{ℕ, ◌+◌, Bool, ◌==◌, List, Option, Some, None, filter, sum_by}
use Rattle.std.specs.List.{list_all}
use Rattle.plant_base.specs.{Sublot}
use Rattle.plant_stock.specs.{is_sublot_key}
use Rattle.plant_tables_columns.specs.{BookedRow, MovementKindCode}
use Rattle.plant_tables_columns.specs.declared.booked.MovementKindCode.TheVariants as kind_code

-- the sublot that the columns name other than the row's own
abbrev pub other_end : Option (List ℕ) → Option ℕ → Option (List ℕ × ℕ)
other_end None sub = None
other_end (Some lot) None = None
other_end (Some lot) (Some sub) = Some (lot, sub)

-- the sublot that a row of this sort brings its amount to
abbrev pub entered_by : MovementKindCode → BookedRow → Option (List ℕ × ℕ)
entered_by kind_code.Received r = Some (r.lot, r.sub)
entered_by kind_code.Consumed r = None
entered_by kind_code.Produced r = Some (r.lot, r.sub)
entered_by kind_code.Scrapped r = None
entered_by kind_code.Divided r = other_end r.lot2 r.sub2
entered_by kind_code.Split r = other_end r.lot2 r.sub2
entered_by kind_code.Merged r = other_end r.lot2 r.sub2

-- and the one that it takes it from
abbrev pub left_by : MovementKindCode → BookedRow → Option (List ℕ × ℕ)
left_by kind_code.Received r = None
left_by kind_code.Consumed r = Some (r.lot, r.sub)
left_by kind_code.Produced r = None
left_by kind_code.Scrapped r = Some (r.lot, r.sub)
left_by kind_code.Divided r = Some (r.lot, r.sub)
left_by kind_code.Split r = Some (r.lot, r.sub)
left_by kind_code.Merged r = Some (r.lot, r.sub)

abbrev pub entries : List BookedRow → List ℕ → ℕ → List BookedRow
entries rows lot number = filter (λ r. is_sublot_key (entered_by r.kind_code r) lot number) rows

abbrev pub exits : List BookedRow → List ℕ → ℕ → List BookedRow
exits rows lot number = filter (λ r. is_sublot_key (left_by r.kind_code r) lot number) rows

abbrev pub total_booked : List BookedRow → ℕ
total_booked rows = sum_by (λ r. r.amount) rows

-- its stock is what entered it less what left it
unfoldable pub has_right_stock : List BookedRow → Sublot → Bool
has_right_stock rows s = s.stock + total_booked (exits rows s.lot s.number) == total_booked (entries rows s.lot s.number)

abbrev pub are_stocks : List BookedRow → List Sublot → Bool
are_stocks rows sublots = list_all (has_right_stock rows) sublots
