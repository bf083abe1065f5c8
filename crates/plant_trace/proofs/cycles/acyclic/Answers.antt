use Rattle.plant_trace.specs.{rank_of}
use Rattle.plant_trace.proofs.RankedIsAcyclic.{ranked_acyclic}
use Rattle.plant_trace.proofs.cycles.acyclic.Goals as goal

pub returns : goal.returns
returns c =
    (λ e. ranked_acyclic (rank_of c.in_ok-positions.positions) c.args.pairs.now (c.rises.ensures.0 e), λ a. c.rises.ensures.1 (c.in_ok-positions.ensures.rises a))
