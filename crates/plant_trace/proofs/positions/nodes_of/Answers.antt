use Rattle.std.proofs.Common.{sym, subst, take_all}
use Rattle.plant_trace.specs.{Lists, IsMentioned}
use Rattle.plant_trace.proofs.EndsOfPairs.{ends_more, ends_none}
use Rattle.plant_trace.proofs.positions.nodes_of.Goals as goal

pub loop-pair-init : goal.loop-pair-init
loop-pair-init c = ends_none c.new-nodes.result.keys c.new-nodes.ensures.empty

pub loop-pair-preserved : goal.loop-pair-preserved
loop-pair-preserved c =
    ends_more c.args.pairs.now c.loop-pair.pair-index c.pair-item.result c.loop-pair.nodes c.insert.new.self c.insert-in-loop-pair.new.self c.loop-pair-test.true c.pair-item.is c.in_ok-insert.ensures.updates c.in_ok-insert-2.ensures.updates c.loop-pair.invariant

pub returns : goal.returns
returns c =
    let all = rw (take_all c.loop-pair.pair-index c.args.pairs.now c.loop-pair-test.false) at c.loop-pair.invariant in
    subst (Lists (IsMentioned c.args.pairs.now)) (sym c.in_ok-list.ensures.items) (record { ascending = c.in_ok-list.ensures.ascending; only = all.only; all = all.all })
