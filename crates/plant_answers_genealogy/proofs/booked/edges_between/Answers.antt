use Rattle.std.proofs.Common.{◌≡◌, ◌∙◌}
use Rattle.plant_trace.proofs.HoldsIfHonest.{HoldsIfHonest-weaker}
use Rattle.plant_answers_genealogy.specs.{bookings_around}
use Rattle.plant_answers_genealogy.proofs.BookingsBetweenNodes.{summed_between, between_fits}
use Rattle.plant_answers_genealogy.proofs.BookedSumsFit.{amount_fits}
use Rattle.plant_answers_genealogy.proofs.booked.edges_between.Goals as goal

pub returns : goal.returns
returns g c =
    let s = g.V.View.state c.args.view.now in
    HoldsIfHonest-weaker
    (λ (found : c.in_ok-bookings.bookings.items ≡ bookings_around s.movements c.args.nodes.now) sound sorted.
    let summed = rw (c.as_slice.ensures.value, found) at c.in_ok-rows.ensures in
    summed (between_fits s.movements c.args.nodes.now sorted (amount_fits s sound)) ∙ summed_between s.movements c.args.nodes.now sorted)
    c.in_ok-bookings.ensures
