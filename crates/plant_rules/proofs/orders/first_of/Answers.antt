use Rattle.std.proofs.Common.{◌∙◌, find, sym}
use Rattle.std.specs.Cmp.Lexicographic.{texts_ties}
use Rattle.plant_rules.proofs.orders.first_of.Goals as goal

pub returns : goal.returns
returns c = c.first.ensures ∙ (λ i. find (λ o. sym (texts_ties o.order c.args.id) i) c.args.orders.now.rows.now)
