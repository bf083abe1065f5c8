use Rattle.std.proofs.Common.{◌≡◌, ◌∙◌, sym, ap, arith, is_some, true}
use Rattle.plant_rules.specs.{may_open}
use Rattle.std.proofs.lemmas.Grind.{common_steps}
use Rattle.plant_rules.proofs.MergeIsOfNoBatch.{one_recall}
use Rattle.plant_rules.proofs.RecallRows.{recall_tables}
use Rattle.plant_rules.proofs.commands.recall.decide_found.Goals as goal

pub returns-clause-decides : goal.returns-clause-decides
returns-clause-decides c = λ s sound seq lot known lists.
    let none = ap is_some (sym known) ∙ sym c.is_some.ensures ∙ c.if-is_some.false in
    let may : may_open c.args.seq c.args.lot c.args.known ≡ true = grind (arith, common_steps) in
    let tables = recall_tables s c.args.stamp.now c.args.c.now c.args.nodes.now none (lists may) in
    (grind (arith, common_steps), rw (c.in_ok-rows.ensures, seq) tables)

pub returns-clause-one_batch : goal.returns-clause-one_batch
returns-clause-one_batch c = rw c.in_ok-rows.ensures (one_recall c.args.seq c.args.stamp.now c.args.c.now c.args.nodes.now)
