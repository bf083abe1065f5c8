use Rattle.std.proofs.lemmas.Bool.{OnFalse_at}
use Rattle.plant_trace.proofs.NodeSets.{Adds_more, Queues-then, Queues-push, Queues-still}
use Rattle.plant_trace.proofs.seen.note_new.Goals as goal
use Rattle.plant_trace.proofs.seen.note_new.Goals.{then-branch+in_ok-push, else-branch}

pub loop-node-preserved : goal.loop-node-preserved
loop-node-preserved c =
    let e = c.in_ok-insert.ensures in
    let inv = c.loop-node.invariant in
    record {
      adds = Adds_more c.loop-node.seen c.insert.new.self c.args.nodes.now c.args.seen.now.keys c.loop-node.node-index c.node-item.result c.in_ok-insert.field-0 c.loop-node-test.true (rw c.node-item.is at e.updates) e.len e.unchanged inv.adds;
      queues = Queues-then _ _ _ _ _ _ inv.queues (elim c.if-branch.branch [
        | then-branch+in_ok-push w ↦ rw w.queue-is (Queues-push _ _ _ _ _ e.updates w.in_ok-push.ensures.items)
        | else-branch w ↦ rw w.queue-is (Queues-still _ _ _ (OnFalse_at w.if-branch.false e.unchanged))
      ]);
    }
