use Rattle.std.proofs.Common.{◌≡◌, ◌+◌, ◌++◌, ◌∷◌, map, take}
use Rattle.plant_base.specs.{newest_schema}
use Rattle.plant_base.specs.declared.rows.MovementKind.TheVariants.{Produced}
use Rattle.plant_view.specs.declared.change.RowChange.TheVariants as row
use Rattle.plant_rules.specs.{line_of, edge_change, lot_marks}
use Rattle.plant_rules.proofs.commands.produce.produced_rows.Given as goal

abbrev pub invariant-loop-mark : goal.invariant-loop-mark
invariant-loop-mark l = record {
  rows : l.rows.items ≡ (row.Meta (record { schema = newest_schema; position = record { seq = l.seq + 1; at = l.stamp.at } }) ∷ row.Lot (record { id = l.c.lot; def = l.c.def }) ∷ row.Sublot (record { lot = l.c.lot; number = 0; place = l.c.place; stock = l.c.amount }) ∷ row.Movement (line_of l.seq l.stamp (Produced l.c.batch) l.c.lot 0 l.c.amount) ∷ edge_change (line_of l.seq l.stamp (Produced l.c.batch) l.c.lot 0 l.c.amount)) ++ map row.Mark (lot_marks l.c.lot (take l.mark-index l.marks));
}
