use Rattle.std.proofs.Common.{take}
use Rattle.plant_trace.specs.{mention_rank, Rises}
use Rattle.plant_trace.proofs.mention_order.rises.Given as goal

abbrev pub invariant-loop-pair : goal.invariant-loop-pair
invariant-loop-pair l = Rises (mention_rank l.mentions.rows.now) (take l.pair-index l.pairs)
