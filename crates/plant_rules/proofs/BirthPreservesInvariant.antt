-- A new lot keeps a state consistent.
use Rattle.std.proofs.Common.{◌≡◌, ◌∙◌, ℕ, ◌+◌, ◌≤◌, ◌++◌, ◌∷◌, [], cond, true, false, List, Some, is_some, refl, sym, subst, ap, arith, ◌==◌, ◌&&◌}
use Rattle.std.specs.List.{AllByRecursion}
use Rattle.plant_base.specs.{greatest_amount, greatest_sublot, State, same, put, lot_order, place_order, definition_at, batch_at, lot_at, Hold, Lot, Movement, MovementKind, Place, Produce, Receive, Stamp}
use Rattle.plant_base.specs.declared.rows.MovementKind.TheVariants.{Received, Produced}
use Rattle.plant_view.proofs.ListLemmas.{all_put, all_weaker, sorted_put, found_put, same_itself, key_itself, lot_order_total, place_order_total, all_two, all_append}
use Rattle.plant_stock.specs.{entered, left, goes_to, comes_from, is_sublot_key, entering, leaving}
use Rattle.plant_stock.proofs.StockAfterMovement.{entered_push, left_push}
use Rattle.plant_rules.specs.{line_of, born_as, receive, produce}
use Rattle.plant_view.specs.{IsConsistentGenealogy, IsThere, IsOneMaterial}
use Rattle.plant_view.specs.DecisionInvariant.{DecisionInvariant}
use Rattle.plant_view.proofs.GenealogyAfterMovement.{descent_grows, descent_stays, keeps_into_new}
use Rattle.plant_view.proofs.CommandsPreserveInvariant.{lot_stays, of_stays, there_still, entering_small}
use Rattle.plant_rules.proofs.BirthRows.{Brings, receipt_brings, production_brings}

-- ---- a new lot, by any lines that lead to it

-- the new lot with its sublot 0, and the lines
abbrev pub with_lot : State → Stamp → Lot → List ℕ → List Movement → State
with_lot s t r place lines = record s {
  seq = s.seq + 1;
  at = t.at;
  lots = put lot_order r s.lots;
  places = put place_order (record { lot = r.id; number = 0; place = place }) s.places;
  movements = s.movements ++ lines;
}

-- the lines bring this amount to the sublot, and take no more than there is
pub record Brought (s new : State) (lot : List ℕ) (amount : ℕ) (lines : List Movement) : Type 0 where
  pub named : AllByRecursion (λ m. IsThere new (goes_to m.kind m.lot m.sub) × IsThere new (comes_from m.kind m.lot m.sub)) lines
  pub one_material : AllByRecursion (λ m. IsOneMaterial new (goes_to m.kind m.lot m.sub) (comes_from m.kind m.lot m.sub)) lines
  pub small : amount ≤ greatest_amount
  pub entering : (l : List ℕ) (n : ℕ) → entered new.movements l n ≡ entered s.movements l n + cond (same lot l && 0 == n) amount 0
  pub covered : (l : List ℕ) (n : ℕ) → left new.movements l n ≤ entered new.movements l n
  pub descended : IsConsistentGenealogy new.batches new.movements

-- the sublot is there
pub first_there : (s : State) (t : Stamp) (r : Lot) (place : List ℕ) (lines : List Movement) → IsThere (with_lot s t r place lines) (Some (r.id, 0))
first_there s t r place lines = found_put place_order (record { lot = r.id; number = 0; place = place }) (λ q. same q.lot r.id && q.number == 0) s.places (key_itself r.id 0)

pub consistent_with_lot : (s : State) → DecisionInvariant s → (t : Stamp) (r : Lot) (place : List ℕ) (lines : List Movement) (amount : ℕ) → is_some (definition_at s r.def) ≡ true → is_some (lot_at s r.id) ≡ false → Brought s (with_lot s t r place lines) r.id amount lines → DecisionInvariant (with_lot s t r place lines)
consistent_with_lot s sound t r place lines amount known none brought =
    let new = with_lot s t r place lines in
    let p : Place = record { lot = r.id; number = 0; place = place } in
    let stays : (lot : List ℕ) → is_some (lot_at s lot) ≡ true → is_some (lot_at new lot) ≡ true = λ lot there. ap is_some (lot_stays s sound r none lot there) ∙ there in
    record {
      catalogue = record {
        classes = sound.catalogue.classes;
        definitions = sound.catalogue.definitions;
        classified = sound.catalogue.classified;
        defined = all_put lot_order (λ (l : Lot). is_some (definition_at s l.def) ≡ true) r s.lots known sound.catalogue.defined;
      };
      recipes = sound.recipes;
      production = sound.production;
      stock = record {
        lots = sorted_put lot_order lot_order_total r s.lots sound.stock.lots;
        places = sorted_put place_order place_order_total p s.places sound.stock.places;
        housed = all_put place_order (λ (q : Place). is_some (lot_at new q.lot) ≡ true) p s.places
            (found_put lot_order r (λ x. same x.id r.id) s.lots (same_itself r.id))
            (all_weaker _ _ (λ (q : Place) there. stays q.lot there) s.places sound.stock.housed);
        numbered = all_put place_order (λ (q : Place). q.number ≤ greatest_sublot) p s.places (omega arith) sound.stock.numbered;
        named = all_append _ s.movements lines
            (all_weaker _ _ (λ m n. (there_still s new p refl _ n.0, there_still s new p refl _ n.1)) s.movements sound.stock.named)
            brought.named;
        one_material = all_append _ s.movements lines
            (all_two _ _ _ (λ m n one. of_stays s sound r none _ _ new refl n.0 n.1 one) s.movements sound.stock.named sound.stock.one_material)
            brought.one_material;
        small = λ l n. let e = brought.entering l n in let h = entering_small s sound r.id amount brought.small none l n in omega (arith, e, h);
        covered = brought.covered;
      };
      genealogy = brought.descended;
      bars = record {
        holds = sound.bars.holds;
        placed = all_weaker _ _ (λ (h : Hold) there. stays h.lot there) s.holds sound.bars.placed;
        recalls = sound.bars.recalls;
      };
    }

-- ---- what is received or produced

consistent_born : (kind : MovementKind) → Brings kind → (s : State) → DecisionInvariant s → (t : Stamp) (lot def : List ℕ) (amount : ℕ) (place : List ℕ) → amount ≤ greatest_amount → is_some (definition_at s def) ≡ true → is_some (lot_at s lot) ≡ false
    → IsConsistentGenealogy s.batches (born_as s t kind lot def amount place).movements → DecisionInvariant (born_as s t kind lot def amount place)
consistent_born kind brings s sound t lot def amount place small known none descended =
    let new = born_as s t kind lot def amount place in
    let r : Lot = record { id = lot; def = def } in
    let m : Movement = line_of s.seq t kind lot 0 amount in
    let comes : (l : List ℕ) (n : ℕ) → entering m l n ≡ cond (is_sublot_key (Some (lot, 0)) l n) amount 0 = λ l n. ap (λ k. cond (is_sublot_key k l n) amount 0) (brings.to lot 0) in
    let nothing : (l : List ℕ) (n : ℕ) → leaving m l n ≡ 0 = λ l n. ap (λ k. cond (is_sublot_key k l n) amount 0) (brings.nowhere lot 0) in
    consistent_with_lot s sound t r place (m ∷ []) amount known none (record {
      named = ((subst (IsThere new) (sym (brings.to lot 0)) (first_there s t r place (m ∷ [])), subst (IsThere new) (sym (brings.nowhere lot 0)) tt), tt);
      one_material = (subst (λ k. IsOneMaterial new k (comes_from kind lot 0)) (sym (brings.to lot 0)) (subst (IsOneMaterial new (Some (lot, 0))) (sym (brings.nowhere lot 0)) tt), tt);
      small = small;
      entering = λ l n. omega (arith, entered_push s.movements m l n, comes l n);
      covered = λ l n. omega (arith, entered_push s.movements m l n, left_push s.movements m l n, nothing l n, sound.stock.covered l n);
      descended = descended;
    })

pub receive_preserves_invariant : (s : State) → DecisionInvariant s → (t : Stamp) (c : Receive) → c.amount ≤ greatest_amount → is_some (definition_at s c.def) ≡ true → is_some (lot_at s c.lot) ≡ false → DecisionInvariant (receive s t c)
receive_preserves_invariant s sound t c small known none =
    consistent_born Received receipt_brings s sound t c.lot c.def c.amount c.place small known none
    (descent_stays s.batches s.movements (line_of s.seq t Received c.lot 0 c.amount) sound.genealogy refl refl)

pub produce_preserves_invariant : (s : State) → DecisionInvariant s → (t : Stamp) (c : Produce) → c.amount ≤ greatest_amount → is_some (batch_at s c.batch) ≡ true → is_some (definition_at s c.def) ≡ true → is_some (lot_at s c.lot) ≡ false → DecisionInvariant (produce s t c)
produce_preserves_invariant s sound t c small there known none =
    let m : Movement = line_of s.seq t (Produced c.batch) c.lot 0 c.amount in
    consistent_born (Produced c.batch) (production_brings c.batch) s sound t c.lot c.def c.amount c.place small known none
    (descent_grows s.batches s.movements (m ∷ []) sound.genealogy (there, tt) (keeps_into_new s sound c.lot (m ∷ []) none ((refl, λ e. absurd cc), tt)))
