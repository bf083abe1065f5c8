use Rattle.std.proofs.Common.{take}
use Rattle.plant_answers_genealogy.specs.{IsSetOf}
use Rattle.plant_answers_genealogy.proofs.booked.set_of.Given as goal

abbrev pub invariant-loop-node : goal.invariant-loop-node
invariant-loop-node l = IsSetOf (take l.node-index l.nodes) l.among
