use Rattle.std.proofs.Common.{refl, Some}
use Rattle.plant_trace.proofs.NodesWaiting.{count_put}
use Rattle.plant_trace.proofs.positions.wait.Goals as goal

pub returns-in_ok-insert-clause-some : goal.returns-in_ok-insert-clause-some
returns-in_ok-insert-clause-some c = λ more.
    (refl, count_put c.args.left.now c.insert.new.self c.args.node (Some c.args.count) c.in_ok-insert.ensures.updates)
