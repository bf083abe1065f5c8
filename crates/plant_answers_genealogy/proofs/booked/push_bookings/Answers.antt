use Rattle.std.proofs.Common.{rules, ◌≡◌, ◌++◌, ◌∙◌, option_to_list}
use Rattle.plant_answers_genealogy.specs.{booked_at}
use Rattle.plant_answers_genealogy.proofs.BookingLoops.{pushed_more}
use Rattle.plant_answers_genealogy.proofs.booked.push_bookings.Goals as goal

pub loop-movement-preserved : goal.loop-movement-preserved
loop-movement-preserved c = λ nodes set.
    let pushed : c.push_found.new.rows.items ≡ c.loop-movement.rows.items ++ option_to_list c.booked_at.result = search rules in
    pushed ∙ pushed_more (booked_at nodes c.args.at.now) c.args.movements.now c.loop-movement.movement-index c.movement-item.result c.args.rows.now.items c.loop-movement.rows.items c.booked_at.result c.loop-movement-test.true c.movement-item.is (c.booked_at.ensures nodes set) (c.loop-movement.invariant nodes set)
