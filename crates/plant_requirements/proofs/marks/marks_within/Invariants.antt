use Rattle.std.proofs.Common.{◌≡◌, take}
use Rattle.plant_view.specs.{marks}
use Rattle.plant_requirements.proofs.marks.marks_within.Given as goal

-- the set has the marks of the first recalls
abbrev pub invariant-loop-recall : goal.invariant-loop-recall
invariant-loop-recall l = record {
  same : l.edges.pairs.now ≡ l.pairs;
  first : l.all.keys ≡ marks (take l.recall-index l.recalls) l.pairs;
}
