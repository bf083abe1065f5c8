-- A definition that was found is the one of its id.
use Rattle.std.proofs.Common.{◌≡◌, ◌∙◌, List, ℕ, Bool, true, false, cond, Option, Some, None, IfSome, refl, sym, ap}
use Rattle.plant_view.proofs.ListLemmas.{found_passes, same_id}
use Rattle.plant_base.specs.{State, definition_at, same, Definition}
use Rattle.plant_answers_genealogy.specs.{last_one}

pub of_its_id : (s : State) (id : List ℕ) (found : Option Definition) → found ≡ definition_at s id → IfSome found (λ d. definition_at s d.id ≡ Some d)
of_its_id s id None e = tt
of_its_id s id (Some d) e =
    let named : d.id ≡ id = same_id d.id id (found_passes (λ (r : Definition). same r.id id) s.definitions d (sym e)) in
    ap (definition_at s) named ∙ sym e

-- the last one is that of the state, where it is of the id
pub of_the_last : (s : State) (id : List ℕ) (last : Option Definition) (d : Definition) → Some d ≡ last_one id last → IfSome last (λ x. definition_at s x.id ≡ Some x) → (Some d ≡ definition_at s id) × (last ≡ definition_at s id)
of_the_last s id None d e known = absurd cc
of_the_last s id (Some x) d e known = by (same x.id id) refl e
  where
    by : (b : Bool) → same x.id id ≡ b → Some d ≡ cond b (Some x) None → (Some d ≡ definition_at s id) × (Some x ≡ definition_at s id)
    by true is e = let at : Some x ≡ definition_at s id = sym known ∙ ap (definition_at s) (same_id x.id id is) in (e ∙ at, at)
    by false is e = absurd cc
