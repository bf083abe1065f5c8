use Rattle.std.proofs.Common.{◌∙◌, sym, ap, is_none}
use Rattle.plant_check.proofs.FoundIfDisobeyed.{numbers_none}
use Rattle.plant_check.proofs.numbers.are_numbers.Goals as goal

pub returns-in-Ok-None : goal.returns-in-Ok-None
returns-in-Ok-None c = let arm = c.in-Ok-None in ap is_none (sym arm.field-0-is ∙ arm.ensures) ∙ numbers_none c.args.greatest c.args.events.now c.args.movements.now

pub returns-in-Ok-Some : goal.returns-in-Ok-Some
returns-in-Ok-Some c = let arm = c.in-Ok-Some in ap is_none (sym arm.field-0-is ∙ arm.ensures) ∙ numbers_none c.args.greatest c.args.events.now c.args.movements.now
