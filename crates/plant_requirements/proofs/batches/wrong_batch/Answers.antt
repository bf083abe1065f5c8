use Rattle.std.proofs.Common.{◌≡◌, IfOk}
use Rattle.plant_requirements.specs.{first_reported}
use Rattle.plant_requirements.specs.{batch_fault}
use Rattle.plant_requirements.proofs.batches.wrong_batch.Goals as goal

pub returns : goal.returns
returns c =
    let p = c.in_ok-new.field-0 in
    let are = c.in_ok-new.ensures in
    let found : IfOk c.first_fault.result (λ reported. reported ≡ first_reported
    (batch_fault p.recipes.rows.now p.lines.rows.now p.jobs.rows.now c.in_ok-new-2.field-0.rows.now c.in_ok-new-3.field-0.rows.now) c.args.batches.now) = c.first_fault.ensures in
    rw (are.0, are.1, are.2, c.in_ok-new-2.ensures, c.in_ok-new-3.ensures) at found
