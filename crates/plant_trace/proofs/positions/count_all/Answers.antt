use Rattle.std.proofs.Common.{◌≡◌, ◌∙◌, ◌+◌, [], ◌∷◌, ◌++◌, List, Contains, take, ap, refl, subst, sym, take_all}
use Rattle.std.proofs.lemmas.List.{take_more}
use Rattle.plant_trace.specs.{AreSoMany, AreWaiting, Awaits}
use Rattle.plant_trace.specs.declared.node.Node.{Node}
use Rattle.plant_trace.proofs.DistinctNodes.{not_before}
use Rattle.plant_trace.proofs.NodesWaiting.{counted_node, waiting_none}
use Rattle.plant_trace.proofs.positions.count_all.Goals as goal

pub loop-node-init : goal.loop-node-init
loop-node-init c = record {
  same = refl;
  waiting = λ empty none d. waiting_none (Awaits c.args.source.now.pairs.now []) c.args.left.now c.args.ready.now.items empty none;
}

pub loop-node-preserved : goal.loop-node-preserved
loop-node-preserved c =
    let inv = c.loop-node.invariant in
    let pairs = c.args.source.now.pairs.now in
    let nodes = c.args.nodes.now in
    let i = c.loop-node.node-index in
    let node = c.node-item.result in
    let more : take (i + 1) nodes ≡ take i nodes ++ node ∷ [] = take_more nodes i node c.loop-node-test.true ∙ ap (λ (q : Node). take i nodes ++ q ∷ []) (sym c.node-item.is) in
    let many = subst (λ (ps : List (Node × Node)). AreSoMany (Awaits ps [] node) c.in_ok-count.count) inv.same c.in_ok-count.ensures.counts in
    record {
      same = c.count_before.ensures.same ∙ inv.same;
      waiting = λ empty none d.
          subst (λ (ns : List Node). AreWaiting (Awaits pairs []) (Contains ns) c.wait.new.left c.wait.new.ready.items) (sym more)
          (counted_node pairs (take i nodes) node c.in_ok-count.count c.loop-node.left c.wait.new.left c.loop-node.ready.items c.wait.new.ready.items
          (λ h. not_before nodes i node d c.loop-node-test.true (subst (Contains (take i nodes)) c.node-item.is h))
          (inv.waiting empty none d) many c.in_ok-wait.ensures.none c.in_ok-wait.ensures.some);
    }

pub returns-clause-waiting : goal.returns-clause-waiting
returns-clause-waiting c = λ empty none d.
    subst (λ (ns : List Node). AreWaiting (Awaits c.args.source.now.pairs.now []) (Contains ns) c.loop-node.left c.loop-node.ready.items)
    (take_all c.loop-node.node-index c.args.nodes.now c.loop-node-test.false) (c.loop-node.invariant.waiting empty none d)
