use Rattle.std.proofs.Common.{◌≡◌, take}
use Rattle.plant_trace.specs.{mentions_in}
use Rattle.plant_trace.proofs.mention_order.mentions_in.Given as goal

abbrev pub invariant-loop-pair : goal.invariant-loop-pair
invariant-loop-pair l = l.mentions.items ≡ mentions_in (take l.pair-index l.pairs)
