use Rattle.std.proofs.Common.{◌∙◌, map, refl, ap}
use Rattle.plant_view.specs.{sublot_row}
use Rattle.plant_questions.specs.{page_of, is_after}
use Rattle.plant_desk.proofs.PageIsPrefix.{prefix_of_mapped}
use Rattle.plant_desk.proofs.pages.ListsViewWorklists.sublots_after.Goals as goal

pub returns : goal.returns
returns c =
    let lists = c.args.self.now.lists.now in
    let cursor = c.args.cursor in
    record {
      always = tt;
      before = λ h. h;
      same = λ h. refl;
      holds = λ h sound.
          let moved = c.deref-2.ensures.value in
          let rows = rw moved at (c.in_ok-rows.ensures.stocks (rw moved (record { small = sound.stock.small; covered = sound.stock.covered }))) in
          let found = rw c.deref.ensures.value at c.in_ok-places.ensures in
          let places = c.as_slice.ensures.value ∙ found in
          c.first_page.ensures ∙ ap page_of (rows ∙ ap (map (sublot_row lists.movements.items)) places) ∙ prefix_of_mapped (sublot_row lists.movements.items) (λ r. is_after cursor r.lot) (λ p. is_after cursor p.lot) (λ p. refl) lists.places.items;
    }
