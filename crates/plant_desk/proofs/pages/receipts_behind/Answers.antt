use Rattle.std.proofs.Common.{◌≡◌, ◌∙◌, List, IfOk, filter, map, ap, subst}
use Rattle.plant_base.specs.{Receipt}
use Rattle.plant_questions.specs.declared.keys.ByNumber.{ByNumber}
use Rattle.plant_questions.specs.{in_order, number_order, is_number_after}
use Rattle.plant_desk.proofs.SortedRows.{sorted_held}
use Rattle.plant_desk.proofs.pages.receipts_behind.Goals as goal

pub returns : goal.returns
returns c =
    let held : ByNumber → Receipt = λ r. r.0 in
    let sorted : map held c.as_slice.result.now ≡ in_order number_order (filter (is_number_after c.args.cursor) c.args.receipts.now) =
    ap (map held) (c.as_slice.ensures.value ∙ c.in_ok-sorted.ensures) ∙ sorted_held held number_order c.in_ok-rows.rows.items ∙ ap (in_order number_order) c.in_ok-rows.ensures in
    subst (λ (receipts : List Receipt). IfOk c.receipts_of.result (λ v. v.items ≡ receipts)) sorted c.receipts_of.ensures
