use Rattle.std.proofs.Common.{rules, not, ◌&&◌}
use Rattle.plant_base.specs.{same}
use Rattle.plant_desk.proofs.RetainKeeps.{filtered_same}
use Rattle.plant_desk.proofs.lists.delete_hold.Goals as goal

pub returns-clause-items : goal.returns-clause-items
returns-clause-items c = filtered_same _ (λ h. not (same h.lot c.args.lot && same h.id c.args.hold)) _ (λ h b f called. search rules) _ _ c.retain.ensures.filtered
