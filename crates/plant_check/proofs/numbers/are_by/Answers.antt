use Rattle.std.proofs.Common.{◌∙◌, sym, ap, is_none}
use Rattle.plant_check.proofs.FoundIfDisobeyed.{late_none}
use Rattle.plant_check.proofs.numbers.are_by.Goals as goal

pub returns-in-Ok-None : goal.returns-in-Ok-None
returns-in-Ok-None c = let arm = c.in-Ok-None in ap is_none (sym arm.field-0-is ∙ arm.ensures) ∙ late_none c.args.at c.args.movements.now c.args.events.now c.args.batches.now c.args.holds.now

pub returns-in-Ok-Some : goal.returns-in-Ok-Some
returns-in-Ok-Some c = let arm = c.in-Ok-Some in ap is_none (sym arm.field-0-is ∙ arm.ensures) ∙ late_none c.args.at c.args.movements.now c.args.events.now c.args.batches.now c.args.holds.now
