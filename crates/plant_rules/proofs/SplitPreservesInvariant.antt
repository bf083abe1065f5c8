-- A split keeps a state consistent.
use Rattle.std.proofs.Common.{◌≡◌, ◌∙◌, ℕ, ◌≤◌, true, false, List, [], ◌∷◌, Option, Some, None, is_some, refl, sym, ap, arith}
use Rattle.std.proofs.lemmas.Bool.{false≢true}
use Rattle.plant_base.specs.{greatest_amount, State, same, lot_order, definition_at, lot_at, place_at, Lot, Movement, Place, Split, Stamp}
use Rattle.plant_base.specs.declared.rows.MovementKind.TheVariants as kind
use Rattle.plant_view.proofs.ListLemmas.{found_new, found_keeps, same_itself}
use Rattle.plant_stock.proofs.StockAfterMovement.{entered_push, left_push}
use Rattle.plant_rules.specs.{line_of, def_of, split}
use Rattle.plant_view.specs.{sublot_standing, is_of_lot}
use Rattle.plant_view.specs.DecisionInvariant.{DecisionInvariant}
use Rattle.plant_view.proofs.GenealogyAfterMovement.{descent_grows, keeps_into_new}
use Rattle.plant_view.proofs.CommandsPreserveInvariant.{lot_stays, there_still, taking_covered}
use Rattle.plant_rules.proofs.BirthPreservesInvariant.{first_there, consistent_with_lot}

-- a lot of the definition of one that is there is of its definition
pub of_known : (def new : List ℕ) (o : Option Lot) → is_some o ≡ true → is_of_lot def (Some (record { id = new; def = def_of o })) ≡ is_of_lot def o
of_known def new None e = absurd (false≢true e)
of_known def new (Some lot) e = refl

-- the definition of a lot that is there is there
pub def_known : (s : State) → DecisionInvariant s → (lot : List ℕ) (o : Option Lot) → lot_at s lot ≡ o → is_some o ≡ true → is_some (definition_at s (def_of o)) ≡ true
def_known s sound lot None e known = absurd (false≢true known)
def_known s sound lot (Some r) e known = found_keeps (λ (l : Lot). is_some (definition_at s l.def) ≡ true) _ s.lots r sound.catalogue.defined e

pub split_preserves_invariant : (s : State) → DecisionInvariant s → (t : Stamp) (c : Split) → c.amount ≤ greatest_amount → is_some (lot_at s c.lot) ≡ true → is_some (place_at s c.lot c.sub) ≡ true → is_some (lot_at s c.new) ≡ false → c.amount ≤ sublot_standing s c.lot c.sub → DecisionInvariant (split s t c)
split_preserves_invariant s sound t c small known there none enough =
    let r : Lot = record { id = c.new; def = def_of (lot_at s c.lot) } in
    let p : Place = record { lot = c.new; number = 0; place = c.place } in
    let m : Movement = line_of s.seq t (kind.Split c.new) c.lot c.sub c.amount in
    consistent_with_lot s sound t r c.place (m ∷ []) c.amount (def_known s sound c.lot (lot_at s c.lot) refl known) none (record {
      named = ((first_there s t r c.place (m ∷ []), there_still s (split s t c) p refl (Some (c.lot, c.sub)) there), tt);
      one_material = (λ def. ap (is_of_lot def) (found_new lot_order r (λ x. same x.id c.new) s.lots (same_itself c.new) none) ∙ of_known def c.new (lot_at s c.lot) known ∙ sym (ap (is_of_lot def) (lot_stays s sound r none c.lot known)), tt);
      small = small;
      entering = entered_push s.movements m;
      covered = λ l n. let h = taking_covered s sound c.lot c.sub c.amount enough l n in omega (arith, entered_push s.movements m l n, left_push s.movements m l n, h);
      descended = descent_grows s.batches s.movements (m ∷ []) sound.genealogy (tt, tt)
          (keeps_into_new s sound c.new (m ∷ []) none ((refl, λ e. let same : c.lot ≡ c.new = cc in false≢true (sym none ∙ ap (λ l. is_some (lot_at s l)) (sym same) ∙ known)), tt));
    })
