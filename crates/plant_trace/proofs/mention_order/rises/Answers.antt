use Rattle.std.proofs.Common.{◌<◌, refl, take_all}
use Rattle.std.proofs.lemmas.Bool.{both_ways, false≢true}
use Rattle.std.proofs.lemmas.List.Elements.{All-more}
use Rattle.plant_trace.specs.{mention_rank}
use Rattle.plant_trace.specs.declared.node.Node.{Node}
use Rattle.plant_trace.proofs.mention_order.rises.Goals as goal

pub returns-then-not-leads_on : goal.returns-then-not-leads_on
returns-then-not-leads_on c =
    (λ e. absurd (false≢true e), λ a. absurd (both_ways _ c.if-not-leads_on.true (c.leads_on.ensures.1 (rw (← c.pair-item.is) at (a c.loop-pair.pair-index c.pair-item.result c.loop-pair-test.true)))))

pub loop-pair-preserved : goal.loop-pair-preserved
loop-pair-preserved c =
    let rank = mention_rank c.args.mentions.now.rows.now in
    let on = c.leads_on.ensures.0 c.if-not-leads_on.false in
    All-more (λ (p : Node × Node). rank p.0 < rank p.1) c.args.pairs.now c.loop-pair.pair-index c.pair-item.result c.loop-pair-test.true c.loop-pair.invariant (rw c.pair-item.is at on)

pub returns : goal.returns
returns c =
    let all = rw (take_all c.loop-pair.pair-index c.args.pairs.now c.loop-pair-test.false) at c.loop-pair.invariant in
    (λ _. all, λ _. refl)
