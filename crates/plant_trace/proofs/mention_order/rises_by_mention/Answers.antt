use Rattle.plant_trace.specs.{mention_rank}
use Rattle.plant_trace.proofs.RankedIsAcyclic.{ranked_acyclic}
use Rattle.plant_trace.proofs.mention_order.rises_by_mention.Goals as goal

pub returns : goal.returns
returns c = λ yes. ranked_acyclic (mention_rank c.in_ok-ranks.ranks.rows.now) c.args.pairs.now (c.rises.ensures.0 yes)
