use Rattle.std.proofs.Common.{◌≡◌, ◌+◌, ◌++◌, ◌∷◌, [], map, take}
use Rattle.plant_base.specs.{newest_schema}
use Rattle.plant_view.specs.{mark_on}
use Rattle.plant_view.specs.declared.change.RowChange.TheVariants as row
use Rattle.plant_rules.specs.{opened}
use Rattle.plant_rules.proofs.commands.recall.recall_rows.Given as goal

abbrev pub invariant-loop-node : goal.invariant-loop-node
invariant-loop-node l = record {
  rows : l.rows.items ≡ (row.Meta (record { schema = newest_schema; position = record { seq = l.seq + 1; at = l.stamp.at } }) ∷ row.Recall (opened l.stamp l.c) ∷ []) ++ map row.Mark (map (mark_on l.c.recall) (take l.node-index l.nodes));
}
