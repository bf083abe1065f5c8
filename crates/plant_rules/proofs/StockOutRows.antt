-- The rows of what is taken from a sublot make the tables of the next state.
use Rattle.std.proofs.Common.{◌≡◌, ◌∙◌, ℕ, ◌+◌, ◌-◌, cond, List, None, [], ◌∷◌, ◌++◌, map, Some, refl, sym, ap, arith, ◌==◌, ◌&&◌}
use Rattle.plant_base.specs.{State, same, put, newest_schema, place_order, place_at, Movement, MovementKind, Place, Stamp}
use Rattle.plant_base.specs.declared.rows.MovementKind.TheVariants.{Scrapped, Consumed}
use Rattle.plant_view.proofs.ListLemmas.{key_itself, place_order_total, test_tie, put_there}
use Rattle.plant_stock.specs.{goes_to, comes_from, is_sublot_key, entered, left, entering, leaving}
use Rattle.plant_stock.proofs.StockAfterMovement.{entered_push, left_push}
use Rattle.plant_view.specs.declared.change.RowChange.TheVariants as row
use Rattle.plant_rules.specs.{line_of, edge_change, taken_as}
use Rattle.plant_view.specs.{sublot_standing, sublot_order, sublot_row, tables_of, changed_all, edges_of, marks}
use Rattle.plant_view.specs.DecisionInvariant.{DecisionInvariant}
use Rattle.plant_view.proofs.EdgeRowOrder.{edges_pushed}
use Rattle.plant_view.proofs.MarksAfterMovement.{marks_plain}
use Rattle.plant_rules.proofs.EdgeRowChanges.{edge_changed}
use Rattle.plant_view.proofs.StockColumn.{TouchesOnly, sublots_put, apart_fails}

-- a movement of this kind only takes
pub record Takes (kind : MovementKind) : Type 0 where
  pub from : (lot : List ℕ) (number : ℕ) → comes_from kind lot number ≡ Some (lot, number)
  pub nowhere : (lot : List ℕ) (number : ℕ) → goes_to kind lot number ≡ None

module _ (kind : MovementKind) (takes : Takes kind) where
  taken_touches : (seq : ℕ) (t : Stamp) (p : Place) (amount : ℕ) → TouchesOnly (line_of seq t kind p.lot p.number amount) p
  taken_touches seq t p amount = record {
    entering = λ q apart. ap (λ k. cond (is_sublot_key k q.lot q.number) amount 0) (takes.nowhere p.lot p.number);
    leaving = λ q apart. ap (λ k. cond (is_sublot_key k q.lot q.number) amount 0) (takes.from p.lot p.number) ∙ ap (λ b. cond b amount 0) (apart_fails p q apart);
  }

  -- the column with the row of a sublot that is taken from
  sublots_taken_from : (s : State) → DecisionInvariant s → (t : Stamp) (p : Place) (amount : ℕ) → place_at s p.lot p.number ≡ Some p
      → let ms = s.movements ++ line_of s.seq t kind p.lot p.number amount ∷ [] in
      put sublot_order (record { lot = p.lot; number = p.number; place = p.place; stock = sublot_standing s p.lot p.number - amount }) (map (sublot_row s.movements) s.places) ≡ map (sublot_row ms) s.places
  sublots_taken_from s sound t p amount found =
      let m : Movement = line_of s.seq t kind p.lot p.number amount in
      let new = s.movements ++ m ∷ [] in
      let goes : leaving m p.lot p.number ≡ amount = ap (λ k. cond (is_sublot_key k p.lot p.number) amount 0) (takes.from p.lot p.number) ∙ ap (λ b. cond b amount 0) (key_itself p.lot p.number) in
      let comes : entering m p.lot p.number ≡ 0 = ap (λ k. cond (is_sublot_key k p.lot p.number) amount 0) (takes.nowhere p.lot p.number) in
      let stock : sublot_standing s p.lot p.number - amount ≡ entered new p.lot p.number - left new p.lot p.number = omega (arith, entered_push s.movements m p.lot p.number, left_push s.movements m p.lot p.number) in
      ap (λ n. put sublot_order (record { lot = p.lot; number = p.number; place = p.place; stock = n }) (map (sublot_row s.movements) s.places)) stock
      ∙ sublots_put s.movements m p s.places sound.stock.places (taken_touches s.seq t p amount)
      ∙ ap (map (sublot_row new)) (put_there place_order place_order_total p (λ r. same r.lot p.lot && r.number == p.number) (test_tie p) s.places sound.stock.places found)

  pub taken_tables : (s : State) → DecisionInvariant s → (t : Stamp) (lot : List ℕ) (sub amount : ℕ) (place : List ℕ) (stock : ℕ) → place_at s lot sub ≡ Some (record { lot = lot; number = sub; place = place }) → stock ≡ sublot_standing s lot sub
      → changed_all (row.Meta (record { schema = newest_schema; position = record { seq = s.seq + 1; at = t.at } }) ∷ row.Sublot (record { lot = lot; number = sub; place = place; stock = stock - amount }) ∷ row.Movement (line_of s.seq t kind lot sub amount) ∷ edge_change (line_of s.seq t kind lot sub amount)) (tables_of newest_schema s) ≡ record (tables_of newest_schema (taken_as s t kind lot sub amount)) { marks = marks s.recalls (edges_of s) }
  taken_tables s sound t lot sub amount place stock at is =
      let column = λ (n : ℕ). put sublot_order (record { lot = lot; number = sub; place = place; stock = n - amount }) (map (sublot_row s.movements) s.places) in
      let m = line_of s.seq t kind lot sub amount in
      edge_changed m _
      ∙ (λ i. record (tables_of newest_schema (taken_as s t kind lot sub amount)) { sublots = (ap column is ∙ sublots_taken_from s sound t (record { lot = lot; number = sub; place = place }) amount at) i; edges = sym (edges_pushed s.movements m) i; marks = marks s.recalls (edges_of s) })

pub scrap_takes : Takes Scrapped
scrap_takes = record { from = λ lot number. refl; nowhere = λ lot number. refl }

pub consumption_takes : (batch : List ℕ) → Takes (Consumed batch)
consumption_takes batch = record { from = λ lot number. refl; nowhere = λ lot number. refl }

-- a scrap leaves the marks
pub scrapped_tables : (s : State) → DecisionInvariant s → (t : Stamp) (lot : List ℕ) (sub amount : ℕ) (place : List ℕ) (stock : ℕ) → place_at s lot sub ≡ Some (record { lot = lot; number = sub; place = place }) → stock ≡ sublot_standing s lot sub
    → changed_all (row.Meta (record { schema = newest_schema; position = record { seq = s.seq + 1; at = t.at } }) ∷ row.Sublot (record { lot = lot; number = sub; place = place; stock = stock - amount }) ∷ row.Movement (line_of s.seq t Scrapped lot sub amount) ∷ []) (tables_of newest_schema s) ≡ tables_of newest_schema (taken_as s t Scrapped lot sub amount)
scrapped_tables s sound t lot sub amount place stock at is =
    taken_tables Scrapped scrap_takes s sound t lot sub amount place stock at is
    ∙ (λ i. record (tables_of newest_schema (taken_as s t Scrapped lot sub amount)) { marks = sym (marks_plain s (line_of s.seq t Scrapped lot sub amount) refl) i })
