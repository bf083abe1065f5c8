use Rattle.std.proofs.Common.{◌∙◌, sym, arith}
use Rattle.std.proofs.lemmas.Grind.{common_steps}
use Rattle.plant_rules.proofs.RecallRows.{lift_tables}
use Rattle.plant_rules.proofs.commands.lift.decide_found.Goals as goal

pub returns-clause-decides : goal.returns-clause-decides
returns-clause-decides c = λ s sound seq known.
    let at = sym known ∙ c.in-Some.is in
    let tables = lift_tables s sound c.args.stamp.now c.args.c.now c.in-Some.recall at in
    (grind (arith, common_steps), rw (c.in_ok-rows.ensures, c.meta_after.ensures, c.lifted.ensures, seq) tables)
