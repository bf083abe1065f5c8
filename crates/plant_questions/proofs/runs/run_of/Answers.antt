use Rattle.std.proofs.Common.{◌≡◌, ◌-◌, take, drop, length, arith, length-drop, take_all}
use Rattle.plant_questions.proofs.RowsOfLot.{part_is, rise_rest}
use Rattle.plant_questions.proofs.runs.run_of.Goals as goal

pub returns : goal.returns
returns g c rise =
    let lot_of = g.R.OfLot.lot_of in
    let rows = c.args.rows.now in
    let from = c.count_before-from.result in
    let low = c.count_before-from.ensures.bound in
    let long = length-drop from rows in
    let whole : take (length rows - from) (drop from rows) ≡ drop from rows = take_all (length rows - from) (drop from rows) (omega (arith, long)) in
    let bound = rw whole at c.count_up_to-count.ensures.bound in
    let parted = rw whole at c.count_up_to-count.ensures.parted in
    rw whole (part_is lot_of c.args.lot.now rows from c.count_up_to-count.result low bound (c.count_before-from.ensures.parted rise) (parted (rise_rest lot_of from rows low rise)))
