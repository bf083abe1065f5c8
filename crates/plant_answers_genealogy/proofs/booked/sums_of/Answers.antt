use Rattle.std.proofs.Common.{◌≡◌, ◌∙◌, ap, take_all}
use Rattle.std.proofs.lemmas.Result.{IfOk-weaker}
use Rattle.std.specs.BTreeMap.{get}
use Rattle.plant_base.specs.{edge_order, EdgeRow}
use Rattle.plant_answers_genealogy.specs.{sum_at}
use Rattle.plant_answers_genealogy.proofs.SumsByEdge.{sums_more, entries_summed}
use Rattle.plant_answers_genealogy.proofs.booked.sums_of.Goals as goal

pub loop-booking-preserved : goal.loop-booking-preserved
loop-booking-preserved c fits = sums_more c.args.bookings.now c.loop-booking.booking-index c.booking-item.result c.loop-booking.sums c.add.new.sums c.loop-booking-test.true c.booking-item.is fits (c.loop-booking.invariant fits) c.in_ok-add.ensures

pub returns : goal.returns
returns c fits =
    let bookings = c.args.bookings.now in
    let whole = take_all c.loop-booking.booking-index bookings c.loop-booking-test.false in
    let has : (e : EdgeRow) → get edge_order c.loop-booking.sums e ≡ sum_at bookings e = λ e. c.loop-booking.invariant fits e ∙ ap (λ bs. sum_at bs e) whole in
    IfOk-weaker c.listed.result _ _ (λ v e. e ∙ entries_summed bookings c.loop-booking.sums c.listed.ensures.ascending has) c.listed.ensures.items
