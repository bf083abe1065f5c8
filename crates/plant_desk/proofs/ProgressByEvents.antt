-- The progress of a batch, event by event of all batches.
use Rattle.std.proofs.Common.{◌≡◌, ℕ, ◌+◌, ◌<◌, Bool, true, false, if◌then◌else◌, List, [], ◌∷◌, ◌++◌, length, take, map, filter, get_or, ap, ◌∙◌, cond, append-nil}
use Rattle.std.proofs.lemmas.List.{map-append}
use Rattle.std.proofs.lemmas.List.Elements.{filter_more}
use Rattle.plant_base.specs.{same, BatchEvent}
use Rattle.plant_recipe.specs.{progress_after, turn_or_stay}
use Rattle.plant_recipe.proofs.EventFold.{progress_after_push}
use Rattle.plant_view.specs.{events_among}
use Rattle.plant_desk.specs.{next_progress}

module _ (phases : ℕ) (prefix : List BatchEvent) (e : BatchEvent) where
  -- with one more event, if it is the batch's
  one_more : (is : Bool) → progress_after phases (map (λ (x : BatchEvent). x.event) (prefix ++ cond is (e ∷ []) []))
      ≡ (if is then turn_or_stay phases (progress_after phases (map (λ (x : BatchEvent). x.event) prefix)) e.event else progress_after phases (map (λ (x : BatchEvent). x.event) prefix))
  one_more true = ap (progress_after phases) (map-append (λ (x : BatchEvent). x.event) prefix (e ∷ [])) ∙ progress_after_push phases (map (λ (x : BatchEvent). x.event) prefix) e.event
  one_more false = ap (λ xs. progress_after phases (map (λ (x : BatchEvent). x.event) xs)) (append-nil prefix)

pub after_more : (phases : ℕ) (es : List BatchEvent) (batch : List ℕ) (i : ℕ) (d : BatchEvent) → i < length es
    → progress_after phases (events_among (take (i + 1) es) batch) ≡ next_progress phases batch (progress_after phases (events_among (take i es) batch)) (get_or es i d)
after_more phases es batch i d within =
    ap (λ xs. progress_after phases (map (λ (x : BatchEvent). x.event) xs)) (filter_more (λ x. same x.batch batch) es i d within)
    ∙ one_more phases (filter (λ x. same x.batch batch) (take i es)) (get_or es i d) (same (get_or es i d).batch batch)
