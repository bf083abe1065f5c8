-- Lots, sublots and holds that break a rule.
use Rattle.std.specs.Prelude.{List, map, Option}
use Rattle.plant_base.specs.{Definition, Hold, Lot, Sublot}
use Rattle.plant_view.specs.{is_defined}
use Rattle.plant_tables_columns.specs.{BookedRow}
use Rattle.plant_check_rules.specs.{are_from_zero, sublots_among, is_lot_among, is_born}
use Rattle.plant_requirements.specs.{id_key, sublot_key, hold_key}
use Rattle.plant_requirements.specs.{names_none, as_a_whole, fault_unless, or_fault, first_reported, RowFault}
use Rattle.plant_requirements.specs.declared.table_names.Table.TheVariants as table
use Rattle.plant_requirements.specs.declared.fault.Column.TheVariants as column
use Rattle.plant_requirements.specs.declared.fault.Wanted.TheVariants as wanted

-- the lot, where its definition isn't there, or its sublots aren't numbered from 0 on
abbrev pub lot_fault : List Definition → List Sublot → Lot → Option RowFault
lot_fault definitions sublots l =
    or_fault (fault_unless (is_defined definitions l.def) (names_none (table.Lot, id_key l.id) column.Def l.def table.Definition))
    (fault_unless (are_from_zero (map (λ s. s.number) (sublots_among sublots l.id))) (as_a_whole (table.Lot, id_key l.id) (wanted.NumberedFrom table.Sublot 0)))

-- the sublot, where its lot isn't there, or it didn't come to be once
abbrev pub sublot_fault : List Lot → List BookedRow → Sublot → Option RowFault
sublot_fault lots rows s =
    or_fault (fault_unless (is_lot_among lots s.lot) (names_none (table.Sublot, sublot_key s) column.Lot s.lot table.Lot))
    (fault_unless (is_born rows s) (as_a_whole (table.Sublot, sublot_key s) wanted.Birth))

-- the hold, where its lot isn't there
abbrev pub hold_fault : List Lot → Hold → Option RowFault
hold_fault lots h = fault_unless (is_lot_among lots h.lot) (names_none (table.Hold, hold_key h) column.Lot h.lot table.Lot)

abbrev pub lot_fault_in : List Definition → List Lot → List Sublot → List Hold → List BookedRow → Option RowFault
lot_fault_in definitions lots sublots holds rows =
    or_fault (first_reported (lot_fault definitions sublots) lots)
    (or_fault (first_reported (sublot_fault lots rows) sublots) (first_reported (hold_fault lots) holds))
