use Rattle.std.proofs.Common.{sym}
use Rattle.plant_rules.proofs.ChecksFollowConditions.{repeat_passes}
use Rattle.plant_rules.proofs.checking.refusal_in.Goals as goal

pub returns-in-Repeat : goal.returns-in-Repeat
returns-in-Repeat c s e decided =
    let is = rw c.in-Repeat.is at decided in
    sym (repeat_passes s e c.in-Repeat.field-0 is.0 is.1)
