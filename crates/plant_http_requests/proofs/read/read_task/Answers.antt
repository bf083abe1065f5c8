use Rattle.std.proofs.Common.{◌≡◌, Some, Err, false, refl, ap}
use Rattle.plant_http_requests.specs.declared.reading.HeadEnd.TheVariants as end
use Rattle.plant_http_requests.specs.declared.reading.InputFault.TheVariants as fault
use Rattle.plant_http_requests.specs.{most_reads, refused_task}
use Rattle.plant_http_requests.specs.declared.status.Status.TheVariants as status
use Rattle.plant_http_requests.proofs.WholeInput.{from_end, from_head, spent_more}
use Rattle.plant_http_requests.proofs.read.read_task.Goals as goal

pub returns-in-Ok-Early-clause-asks : goal.returns-in-Ok-Early-clause-asks
returns-in-Ok-Early-clause-asks g c =
    from_end _ _ end.Early (Some c.refused_task.result) (rw c.in-Ok-Early.field-0-is at c.in-Ok-Early.ensures.end)
    (λ whole. (Some (refused_task status.BadRequest false), refl, rw c.refused_task.ensures (refl, refl)))

pub returns-in-Ok-TooLong-clause-asks : goal.returns-in-Ok-TooLong-clause-asks
returns-in-Ok-TooLong-clause-asks g c =
    from_end _ _ end.TooLong (Some c.refused_task-in-Ok-TooLong.result) (rw c.in-Ok-TooLong.field-0-is at c.in-Ok-TooLong.ensures.end)
    (λ whole. (Some (refused_task status.HeadTooLarge false), refl, rw c.refused_task-in-Ok-TooLong.ensures (refl, refl)))

pub returns-in-Ok-clause-asks : goal.returns-in-Ok-clause-asks
returns-in-Ok-clause-asks g c =
    let found = c.in-Ok-Found.field-0-is in
    let within = rw found at c.in-Ok-Found.ensures.within in
    from_head _ _ _ _ c.in-Ok-Found.n c.in-Ok.task within.0 c.in-Ok-Found.ensures.known (rw found at c.in-Ok-Found.ensures.found) c.in-Ok.ensures.asks

pub returns-in-Ok-Found-clause-endless : goal.returns-in-Ok-Found-clause-endless
returns-in-Ok-Found-clause-endless g c = λ h.
    let spent = rw c.in-Ok-Found.field-0-is at c.in-Ok-Found.ensures.spent in
    let endless : c.in-Err-head_task.fault ≡ fault.Endless = cc in
    spent_more _ _ _ c.read_head.new.bytes.items most_reads c.read_head.new.reads c.in-Ok-Found.ensures.known spent (c.in-Err-head_task.ensures.endless (ap Err endless))
