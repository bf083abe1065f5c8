use Rattle.std.proofs.Common.{take}
use Rattle.plant_trace.specs.{Indexes}
use Rattle.plant_trace.proofs.indexed.index_of.Given as goal

abbrev pub invariant-loop-pair : goal.invariant-loop-pair
invariant-loop-pair l = Indexes l.direction (take l.pair-index l.pairs) l.index
