use Rattle.std.proofs.Common.{[], arith}
use Rattle.plant_trace.specs.{IsNext, Awaits}
use Rattle.plant_trace.specs.declared.direction.Direction.TheVariants.{Back}
use Rattle.plant_trace.proofs.DistinctNodes.{so_many_listed, so_many_same}
use Rattle.plant_trace.proofs.NodeSets.{none_in}
use Rattle.plant_trace.proofs.positions.count_before.Goals as goal

pub returns-clause-counts : goal.returns-clause-counts
returns-clause-counts c =
    let pairs = c.args.source.now.pairs.now in
    let before = c.in_ok-before.before in
    so_many_same (IsNext Back pairs c.args.node) (Awaits pairs [] c.args.node) c.len.result (λ y h. (h, none_in y)) (λ y a. a.0)
    (so_many_listed (IsNext Back pairs c.args.node) before.items c.len.result (omega (arith, c.len.ensures, before.ok.0)) (c.in_ok-before.ensures.holds tt))
