-- The rows of a division make the tables of the next state.
use Rattle.std.proofs.Common.{sym, ◌≡◌, ◌∙◌, ℕ, ◌-◌, false, cond, List, [], ◌∷◌, ◌++◌, map, is_some, Some, None, refl, ap, arith, ◌==◌, ◌&&◌}
use Rattle.std.specs.List.{AllByRecursion}
use Rattle.plant_base.specs.{State, same, put, newest_schema, place_order, place_at, Divide, Movement, MovementKind, Place, Stamp, Sublot}
use Rattle.plant_base.specs.declared.rows.MovementKind.TheVariants.{Divided}
use Rattle.plant_view.proofs.ListLemmas.{key_itself, place_order_total, test_tie, all_weaker, put_there, found_keeps, none_passes}
use Rattle.plant_stock.specs.{entered, left, goes_to, comes_from, entering, leaving, is_sublot_key}
use Rattle.plant_stock.proofs.StockAfterMovement.{entered_push, left_push}
use Rattle.plant_rules.specs.{line_of, next_number, divide, divide_rows}
use Rattle.plant_view.specs.{sublot_standing, IsSublotAt, sublot_order, sublot_row, tables_of, changed_all}
use Rattle.plant_view.specs.DecisionInvariant.{DecisionInvariant}
use Rattle.plant_view.proofs.EdgeRowOrder.{edges_pushed}
use Rattle.plant_view.proofs.MarksAfterMovement.{marks_plain}
use Rattle.plant_view.proofs.StockColumn.{sublots_taken, sublots_added, apart_fails, nothing_entered, nothing_left}
use Rattle.plant_rules.proofs.NextSublotNumber.{none_among, next_free}

-- the column with the rows of the sublot that a movement takes from and of the new one that it leads to
pub sublots_parted : (s : State) → DecisionInvariant s → (t : Stamp) (kind : MovementKind) (p q : Place) (amount : ℕ) → comes_from kind p.lot p.number ≡ Some (p.lot, p.number) → goes_to kind p.lot p.number ≡ Some (q.lot, q.number)
    → place_at s p.lot p.number ≡ Some p → place_at s q.lot q.number ≡ None
    → let ms = s.movements ++ line_of s.seq t kind p.lot p.number amount ∷ [] in
    put sublot_order (record { lot = q.lot; number = q.number; place = q.place; stock = amount }) (put sublot_order (record { lot = p.lot; number = p.number; place = p.place; stock = sublot_standing s p.lot p.number - amount }) (map (sublot_row s.movements) s.places))
    ≡ map (sublot_row ms) (put place_order q s.places)
sublots_parted s sound t kind p q amount crash_states leads found away =
    let m : Movement = line_of s.seq t kind p.lot p.number amount in
    let ms = s.movements ++ m ∷ [] in
    let takes : (l : List ℕ) (n : ℕ) → leaving m l n ≡ cond (is_sublot_key (Some (p.lot, p.number)) l n) amount 0 = λ l n. ap (λ k. cond (is_sublot_key k l n) amount 0) crash_states in
    let brings : (l : List ℕ) (n : ℕ) → entering m l n ≡ cond (is_sublot_key (Some (q.lot, q.number)) l n) amount 0 = λ l n. ap (λ k. cond (is_sublot_key k l n) amount 0) leads in
    let elsewhere : AllByRecursion (λ (r : Place). entering m r.lot r.number ≡ 0) s.places = all_weaker _ _ (λ (r : Place) none. brings r.lot r.number ∙ none) s.places (none_among s q.lot q.number amount away) in
    let goes : leaving m p.lot p.number ≡ amount = takes p.lot p.number ∙ ap (λ b. cond b amount 0) (key_itself p.lot p.number) in
    let apart : entering m p.lot p.number ≡ 0 = found_keeps (λ (r : Place). entering m r.lot r.number ≡ 0) _ s.places p elsewhere found in
    let other : (same p.lot q.lot && p.number == q.number) ≡ false = found_keeps (λ (r : Place). (same r.lot q.lot && r.number == q.number) ≡ false) _ s.places p (none_passes _ s.places (ap is_some away)) found in
    let from : sublot_standing s p.lot p.number - amount ≡ entered ms p.lot p.number - left ms p.lot p.number = omega (arith, entered_push s.movements m p.lot p.number, left_push s.movements m p.lot p.number, apart, goes) in
    let comes : entering m q.lot q.number ≡ amount = brings q.lot q.number ∙ ap (λ b. cond b amount 0) (key_itself q.lot q.number) in
    let stays : leaving m q.lot q.number ≡ 0 = takes q.lot q.number ∙ ap (λ b. cond b amount 0) other in
    let to : amount ≡ entered ms q.lot q.number - left ms q.lot q.number = omega (arith, entered_push s.movements m q.lot q.number, left_push s.movements m q.lot q.number, nothing_entered s sound q.lot q.number away, nothing_left s sound q.lot q.number away, comes, stays) in
    let row_p = λ (n : ℕ). put sublot_order (record { lot = p.lot; number = p.number; place = p.place; stock = n }) (map (sublot_row s.movements) s.places) in
    let taken = ap row_p from ∙ sublots_taken s.movements m p s.places sound.stock.places (record { entering = elsewhere; leaving = λ r foreign_tables. takes r.lot r.number ∙ ap (λ b. cond b amount 0) (apart_fails p r foreign_tables) })
    ∙ ap (map (sublot_row ms)) (put_there place_order place_order_total p (λ r. same r.lot p.lot && r.number == p.number) (test_tie p) s.places sound.stock.places found) in
    (λ i. put sublot_order (record { lot = q.lot; number = q.number; place = q.place; stock = to i }) (taken i)) ∙ sublots_added ms q s.places sound.stock.places

pub divide_tables : (s : State) → DecisionInvariant s → (t : Stamp) (c : Divide) (sublot : Sublot) (next : ℕ) → IsSublotAt s c.lot c.sub sublot → next ≡ next_number s c.lot
    → changed_all (divide_rows s.seq t c sublot next) (tables_of newest_schema s) ≡ tables_of newest_schema (divide s t c)
divide_tables s sound t c sublot next at number =
    let p : Place = record { lot = c.lot; number = c.sub; place = sublot.place } in
    let last = next_number s c.lot in
    let q : Place = record { lot = c.lot; number = last; place = c.place } in
    let column = λ (k n : ℕ). put sublot_order (record { lot = c.lot; number = k; place = c.place; stock = c.amount }) (put sublot_order (record { lot = c.lot; number = c.sub; place = sublot.place; stock = n - c.amount }) (map (sublot_row s.movements) s.places)) in
    let sublots = (λ i. column (number i) (at.1 i)) ∙ sublots_parted s sound t (Divided last) p q c.amount refl refl at.0 (next_free s c.lot) in
    λ i. record (tables_of newest_schema (divide s t c)) { sublots = sublots i; movements = s.movements ++ line_of s.seq t (Divided (number i)) c.lot c.sub c.amount ∷ []; edges = sym (edges_pushed s.movements (line_of s.seq t (Divided last) c.lot c.sub c.amount)) i; marks = sym (marks_plain s (line_of s.seq t (Divided last) c.lot c.sub c.amount) refl) i }
