use Rattle.std.proofs.Common.{◌≡◌, ◌∙◌, ◌||◌, true, take, length, nat_lt, ap, ap₂}
use Rattle.std.specs.Set.{sorted_merge}
use Rattle.plant_questions.specs.{page_size}
use Rattle.plant_questions.proofs.MergedLists.{pages_merged}
use Rattle.plant_questions.proofs.merging.merge_pages.Goals as goal

pub returns : goal.returns
returns g c xs ys first second =
    let order = g.R.HasKeyOrder.order in
    let all : c.in_ok-rows.rows.items ≡ sorted_merge order true (take page_size xs) (take page_size ys) = c.in_ok-rows.ensures ∙ ap₂ (sorted_merge order true) (c.as_slice.ensures ∙ ap (λ p. p.rows) first) (c.as_slice-2.ensures ∙ ap (λ p. p.rows) second) in
    let page = c.first_page-page.ensures in
    let more = ap (λ p. p.has_more) page ∙ ap (λ l. nat_lt page_size (length l)) all in
    pages_merged order xs ys _ (ap (λ p. p.rows) page ∙ ap (take page_size) all)
    (c.is_any.ensures ∙ (λ i. ap (λ p. p.has_more) first i || (ap (λ p. p.has_more) second i || more i)))
