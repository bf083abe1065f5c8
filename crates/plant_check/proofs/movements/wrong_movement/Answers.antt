use Rattle.std.proofs.Common.{◌≡◌, IfOk}
use Rattle.plant_check.specs.{first_reported, movement_fault}
use Rattle.plant_check.proofs.movements.wrong_movement.Goals as goal

pub returns : goal.returns
returns c =
    let n = c.in_ok-named.named in
    let are = c.in_ok-named.ensures in
    let found : IfOk c.first_fault.result (λ reported. reported ≡ first_reported
    (movement_fault n.lots.rows.now n.sublots.rows.now n.batches.rows.now n.controls.rows.now c.in_ok-parts.parts.rows.now) c.args.movements.now) = c.first_fault.ensures in
    rw (are.0, are.1, are.2, are.3, c.in_ok-parts.ensures) at found
