-- A division keeps a state consistent.
use Rattle.std.proofs.Common.{◌≡◌, ◌≤◌, true, Some, is_some, refl, arith, ◌==◌, ◌&&◌}
use Rattle.plant_base.specs.{greatest_amount, greatest_sublot, State, same, place_order, lot_at, place_at, Divide, Movement, Place, Stamp}
use Rattle.plant_base.specs.declared.rows.MovementKind.TheVariants.{Divided}
use Rattle.plant_view.proofs.ListLemmas.{all_put, all_push, all_weaker, sorted_put, found_put, key_itself, place_order_total}
use Rattle.plant_stock.proofs.StockAfterMovement.{entered_push, left_push}
use Rattle.plant_rules.specs.{line_of, next_number, divide}
use Rattle.plant_view.specs.{sublot_standing}
use Rattle.plant_view.specs.DecisionInvariant.{DecisionInvariant}
use Rattle.plant_view.proofs.GenealogyAfterMovement.{descent_stays}
use Rattle.plant_view.proofs.CommandsPreserveInvariant.{there_still, entering_new, taking_covered}
use Rattle.plant_rules.proofs.NextSublotNumber.{next_free}

pub divide_preserves_invariant : (s : State) → DecisionInvariant s → (t : Stamp) (c : Divide) → c.amount ≤ greatest_amount → is_some (lot_at s c.lot) ≡ true → is_some (place_at s c.lot c.sub) ≡ true → c.amount ≤ sublot_standing s c.lot c.sub → next_number s c.lot ≤ greatest_sublot → DecisionInvariant (divide s t c)
divide_preserves_invariant s sound t c small known there enough room =
    let new = divide s t c in
    let next = next_number s c.lot in
    let p : Place = record { lot = c.lot; number = next; place = c.place } in
    let m : Movement = line_of s.seq t (Divided next) c.lot c.sub c.amount in
    record {
      catalogue = sound.catalogue;
      recipes = sound.recipes;
      production = sound.production;
      stock = record {
        lots = sound.stock.lots;
        places = sorted_put place_order place_order_total p s.places sound.stock.places;
        housed = all_put place_order (λ (q : Place). is_some (lot_at s q.lot) ≡ true) p s.places known sound.stock.housed;
        numbered = all_put place_order (λ (q : Place). q.number ≤ greatest_sublot) p s.places room sound.stock.numbered;
        named = all_push _ s.movements m
            (all_weaker _ _ (λ m n. (there_still s new p refl _ n.0, there_still s new p refl _ n.1)) s.movements sound.stock.named)
            (found_put place_order p (λ q. same q.lot c.lot && q.number == next) s.places (key_itself c.lot next), there_still s new p refl (Some (c.lot, c.sub)) there);
        one_material = all_push _ s.movements m sound.stock.one_material (λ def. refl);
        small = λ l n. let e = entered_push s.movements m l n in let h = entering_new s sound c.lot next c.amount small (next_free s c.lot) l n in omega (arith, e, h);
        covered = λ l n. let h = taking_covered s sound c.lot c.sub c.amount enough l n in omega (arith, entered_push s.movements m l n, left_push s.movements m l n, h);
      };
      genealogy = descent_stays s.batches s.movements m sound.genealogy refl refl;
      bars = sound.bars;
    }
