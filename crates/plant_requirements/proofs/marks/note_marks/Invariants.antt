use Rattle.std.proofs.Common.{◌≡◌, map, take}
use Rattle.plant_base.specs.{mark_order}
use Rattle.plant_view.specs.{mark_on, put_all}
use Rattle.plant_requirements.proofs.marks.note_marks.Given as goal

-- the marks on the first nodes were put
abbrev pub invariant-loop-node : goal.invariant-loop-node
invariant-loop-node l = record {
  first : l.all.keys ≡ put_all mark_order (map (mark_on l.recall) (take l.node-index l.nodes)) l.initial.all.keys;
}
