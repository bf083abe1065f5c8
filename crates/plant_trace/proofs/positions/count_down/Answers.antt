use Rattle.std.proofs.Common.{◌≡◌, ◌∙◌, ◌-◌, arith, subst, None, Some}
use Rattle.std.proofs.lemmas.Option.{same_Some}
use Rattle.std.proofs.lemmas.Result.{on_ok_weaker}
use Rattle.plant_trace.specs.{HasCount}
use Rattle.plant_trace.proofs.NodesWaiting.{count_kept, count_put, count_then}
use Rattle.plant_trace.proofs.positions.count_down.Goals as goal

pub returns-in-Some-clause-last : goal.returns-in-Some-clause-last
returns-in-Some-clause-last c = λ e.
    let left = c.args.left.now in
    let node = c.args.node in
    let taken = count_put left c.remove.new.self node None c.in-Some.ensures.updates in
    let one : c.in-Some.count ≡ 1 = same_Some c.in-Some.count 1 (c.in-Some.ensures.value ∙ e) in
    on_ok_weaker c.wait.result (λ t. (t.0, count_kept left c.remove.new.self c.wait.new.left node None taken t.1))
    (c.wait.ensures.none (omega (arith, one, c.saturating_sub.ensures)))

pub returns-in-Some-clause-more : goal.returns-in-Some-clause-more
returns-in-Some-clause-more c = λ n e long.
    let left = c.args.left.now in
    let node = c.args.node in
    let taken = count_put left c.remove.new.self node None c.in-Some.ensures.updates in
    let same : c.in-Some.count ≡ n = same_Some c.in-Some.count n (c.in-Some.ensures.value ∙ e) in
    let fewer : c.saturating_sub.result ≡ n - 1 = omega (arith, same, c.saturating_sub.ensures) in
    on_ok_weaker c.wait.result
    (λ t. (t.0, subst (λ m. HasCount left c.wait.new.left node (Some m)) fewer (count_then left c.remove.new.self c.wait.new.left node None (Some c.saturating_sub.result) taken t.1)))
    (c.wait.ensures.some (omega (arith, fewer, long)))
