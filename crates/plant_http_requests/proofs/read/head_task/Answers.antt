use Rattle.std.proofs.Common.{refl, arith, length-drop}
use Rattle.plant_http_requests.proofs.WholeInput.{whole_body, cut_body, by_head}
use Rattle.plant_http_requests.proofs.read.head_task.Goals as goal

pub returns-in-Ok-true-clause-asks : goal.returns-in-Ok-true-clause-asks
returns-in-Ok-true-clause-asks g c =
    let so = rw (c.split_at.ensures.front, c.as_slice.ensures.value) at c.step_of_head-step.ensures in
    let there = rw c.in-Ok-true.field-0-test at c.in-Ok-true.ensures.found in
    let reads = rw c.as_slice-in-Ok-true.ensures.value at c.body_task.ensures in
    whole_body _ _ _ _ _ c.args.n c.in-Body.size c.in-Body.sender c.in-Body.fields c.step_of_head-step.result c.body_task.result so c.in-Body.is c.in-Ok-true.ensures.known there reads

pub returns-in-Err-clause-lacks : goal.returns-in-Err-clause-lacks
returns-in-Err-clause-lacks g c =
    let so = rw (c.split_at.ensures.front, c.as_slice.ensures.value) at c.step_of_head-step.ensures in
    let size = length-drop c.args.n c.args.bytes.now.items in
    (c.in-Body.size, c.in-Body.fields, c.in-Body.sender, rw c.in-Body.is at so, omega (arith, size, c.in-Err.ensures.early))

pub returns-in-Ok-false-clause-asks : goal.returns-in-Ok-false-clause-asks
returns-in-Ok-false-clause-asks g c =
    let so = rw (c.split_at.ensures.front, c.as_slice.ensures.value) at c.step_of_head-step.ensures in
    let (short, end) = rw c.in-Ok-false.field-0-test at c.in-Ok-false.ensures.found in
    cut_body _ _ _ _ _ c.args.n c.in-Body.size c.in-Body.sender c.in-Body.fields c.step_of_head-step.result c.refused_task.result so c.in-Body.is c.in-Ok-false.ensures.known short end c.requires.within
    c.refused_task.ensures

pub returns-in-Decided-clause-asks : goal.returns-in-Decided-clause-asks
returns-in-Decided-clause-asks g c =
    let so = rw (c.split_at.ensures.front, c.as_slice.ensures.value) at c.step_of_head-step.ensures in
    let it = c.in-Decided in
    by_head _ _ _ c.args.n c.step_of_head-step.result c.unconditional.result so (λ rest. rw (it.is, c.unconditional.ensures) refl) (rw c.unconditional.ensures (refl, refl))
