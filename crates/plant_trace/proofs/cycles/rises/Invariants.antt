use Rattle.std.proofs.Common.{take}
use Rattle.plant_trace.specs.{rank_of, Rises}
use Rattle.plant_trace.proofs.cycles.rises.Given as goal

abbrev pub invariant-loop-pair : goal.invariant-loop-pair
invariant-loop-pair l = Rises (rank_of l.positions) (take l.pair-index l.pairs)
