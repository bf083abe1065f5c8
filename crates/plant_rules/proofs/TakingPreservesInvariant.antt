-- What is taken from a sublot keeps a state consistent.
use Rattle.std.proofs.Common.{◌≡◌, ℕ, ◌≤◌, ◌∷◌, [], cond, true, false, List, Some, is_some, sym, subst, ap, refl, arith}
use Rattle.plant_base.specs.{State, place_at, batch_at, Consume, Movement, MovementKind, Scrap, Stamp}
use Rattle.plant_base.specs.declared.rows.MovementKind.TheVariants.{Scrapped, Consumed}
use Rattle.plant_view.proofs.ListLemmas.{all_push}
use Rattle.plant_stock.specs.{comes_from, is_sublot_key, entering, leaving}
use Rattle.plant_stock.proofs.StockAfterMovement.{entered_push, left_push}
use Rattle.plant_rules.specs.{line_of, taken_as, scrap, consume, is_own_product}
use Rattle.plant_view.specs.{edges_of, IsConsistentGenealogy, sublot_standing, IsThere, IsOneMaterial}
use Rattle.plant_view.specs.DecisionInvariant.{DecisionInvariant}
use Rattle.plant_view.proofs.GenealogyAfterMovement.{descent_grows, descent_stays, keeps_into_batch}
use Rattle.plant_view.proofs.CommandsPreserveInvariant.{taking_covered}
use Rattle.plant_rules.proofs.StockOutRows.{Takes, scrap_takes, consumption_takes}

consistent_taken : (kind : MovementKind) → Takes kind → (s : State) → DecisionInvariant s → (t : Stamp) (lot : List ℕ) (sub amount : ℕ) → is_some (place_at s lot sub) ≡ true → amount ≤ sublot_standing s lot sub
    → IsConsistentGenealogy s.batches (taken_as s t kind lot sub amount).movements → DecisionInvariant (taken_as s t kind lot sub amount)
consistent_taken kind takes s sound t lot sub amount there enough descended =
    let m : Movement = line_of s.seq t kind lot sub amount in
    let nothing : (l : List ℕ) (n : ℕ) → entering m l n ≡ 0 = λ l n. ap (λ k. cond (is_sublot_key k l n) amount 0) (takes.nowhere lot sub) in
    let goes : (l : List ℕ) (n : ℕ) → leaving m l n ≡ cond (is_sublot_key (Some (lot, sub)) l n) amount 0 = λ l n. ap (λ k. cond (is_sublot_key k l n) amount 0) (takes.from lot sub) in
    record {
      catalogue = sound.catalogue;
      recipes = sound.recipes;
      production = sound.production;
      stock = record {
        lots = sound.stock.lots;
        places = sound.stock.places;
        housed = sound.stock.housed;
        numbered = sound.stock.numbered;
        named = all_push _ s.movements m sound.stock.named (subst (IsThere s) (sym (takes.nowhere lot sub)) tt, subst (IsThere s) (sym (takes.from lot sub)) there);
        one_material = all_push _ s.movements m sound.stock.one_material (subst (λ k. IsOneMaterial s k (comes_from kind lot sub)) (sym (takes.nowhere lot sub)) tt);
        small = λ l n. omega (arith, entered_push s.movements m l n, nothing l n, sound.stock.small l n);
        covered = λ l n. omega (arith, entered_push s.movements m l n, left_push s.movements m l n, nothing l n, goes l n, taking_covered s sound lot sub amount enough l n);
      };
      genealogy = descended;
      bars = sound.bars;
    }

pub scrap_preserves_invariant : (s : State) → DecisionInvariant s → (t : Stamp) (c : Scrap) → is_some (place_at s c.lot c.sub) ≡ true → c.amount ≤ sublot_standing s c.lot c.sub → DecisionInvariant (scrap s t c)
scrap_preserves_invariant s sound t c there enough = consistent_taken Scrapped scrap_takes s sound t c.lot c.sub c.amount there enough (descent_stays s.batches s.movements (line_of s.seq t Scrapped c.lot c.sub c.amount) sound.genealogy refl refl)

pub consume_preserves_invariant : (s : State) → DecisionInvariant s → (t : Stamp) (c : Consume) → is_some (batch_at s c.batch) ≡ true → is_some (place_at s c.lot c.sub) ≡ true → c.amount ≤ sublot_standing s c.lot c.sub → is_own_product s c.batch c.lot ≡ false → DecisionInvariant (consume s t c)
consume_preserves_invariant s sound t c known there enough foreign =
    consistent_taken (Consumed c.batch) (consumption_takes c.batch) s sound t c.lot c.sub c.amount there enough
    (descent_grows s.batches s.movements (line_of s.seq t (Consumed c.batch) c.lot c.sub c.amount ∷ []) sound.genealogy (known, tt) (keeps_into_batch (edges_of s) c.lot c.batch foreign))
