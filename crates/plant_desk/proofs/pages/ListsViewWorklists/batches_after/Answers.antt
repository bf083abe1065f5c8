use Rattle.std.proofs.Common.{◌∙◌, refl, ap}
use Rattle.plant_questions.specs.{page_of}
use Rattle.plant_desk.proofs.pages.ListsViewWorklists.batches_after.Goals as goal

pub returns : goal.returns
returns c = record {
  always = tt;
  before = λ h. h;
  same = λ h. refl;
  holds = λ h. c.first_page.ensures ∙ ap page_of (rw (c.deref.ensures.value, c.deref-2.ensures.value, c.deref-3.ensures.value) at c.in_ok-rows.ensures);
}
