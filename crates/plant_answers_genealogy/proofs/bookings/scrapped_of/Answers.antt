use Rattle.std.proofs.Common.{◌≡◌, ◌∙◌}
use Rattle.plant_trace.proofs.HoldsIfHonest.{HoldsIfHonest-weaker}
use Rattle.plant_view.specs.{scraps_of}
use Rattle.plant_answers_genealogy.proofs.BatchMovementsSuffice.{scrapped_all}
use Rattle.plant_answers_genealogy.proofs.bookings.scrapped_of.Goals as goal

pub returns : goal.returns
returns g c =
    let s = g.V.View.state c.args.view.now in
    HoldsIfHonest-weaker
    (λ (found : c.in_ok-scraps.scraps.items ≡ scraps_of s c.args.lot).
    let total = rw (c.as_slice.ensures.value, found) at c.total_of.ensures in
    total ∙ scrapped_all s c.args.lot)
    c.in_ok-scraps.ensures
