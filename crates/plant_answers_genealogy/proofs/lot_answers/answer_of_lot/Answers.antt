use Rattle.std.proofs.Common.{◌≡◌, ◌∙◌}
use Rattle.plant_view.specs.{sublots_of}
use Rattle.plant_answers_genealogy.specs.{lot_answer}
use Rattle.plant_answers_genealogy.proofs.TotalStockFits.{total_fits}
use Rattle.plant_answers_genealogy.proofs.lot_answers.answer_of_lot.Goals as goal

pub returns : goal.returns
returns c s sound held sublots =
    let rows : c.deref.result.now ≡ sublots_of s c.args.lot.id = c.deref.ensures.value ∙ sublots in
    let total = rw rows at c.total_of-stock.ensures in
    let stock = total (total_fits s sound c.args.lot.id) in
    let listed = c.new.ensures ∙ sublots in
    λ i. record (lot_answer s c.args.lot) { held = held i; stock = stock i; sublots = listed i }
