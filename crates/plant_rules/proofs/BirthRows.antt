-- The rows of a new lot make the tables of the next state.
use Rattle.std.proofs.Common.{◌≡◌, ◌∙◌, ℕ, ◌+◌, ◌-◌, false, cond, List, Some, None, [], ◌∷◌, ◌++◌, map, is_some, refl, sym, ap, arith}
use Rattle.plant_base.specs.{State, put, newest_schema, place_order, lot_at, Mark, Movement, MovementKind, Place, Produce, Recall, Stamp, mark_order}
use Rattle.plant_base.specs.declared.rows.MovementKind.TheVariants.{Received, Produced}
use Rattle.plant_view.proofs.ListLemmas.{key_itself}
use Rattle.plant_stock.specs.{goes_to, comes_from, is_sublot_key, entered, left, entering, leaving}
use Rattle.plant_stock.proofs.StockAfterMovement.{entered_push, left_push}
use Rattle.plant_view.specs.declared.change.RowChange.TheVariants as row
use Rattle.plant_rules.specs.{line_of, edge_change, born_as, lot_marks, produced_rows, produce}
use Rattle.plant_view.specs.DecisionInvariant.{DecisionInvariant}
use Rattle.plant_view.specs.{sublot_order, sublot_row, tables_of, changed_all, edges_of, mark_on, marks, marks_on, recalls_on, put_all, RowChange}
use Rattle.plant_trace.specs.declared.node.Node.TheVariants as node
use Rattle.plant_view.proofs.EdgeRowOrder.{edges_pushed}
use Rattle.plant_view.proofs.MarksAfterMovement.{marks_plain, marks_made, marks_changed}
use Rattle.plant_rules.proofs.EdgeRowChanges.{edge_changed, changed_append}
use Rattle.plant_view.proofs.StockColumn.{TouchesOnly, sublots_put, apart_fails, nothing_entered, nothing_left, no_place}

-- a movement of this kind only brings
pub record Brings (kind : MovementKind) : Type 0 where
  pub to : (lot : List ℕ) (number : ℕ) → goes_to kind lot number ≡ Some (lot, number)
  pub nowhere : (lot : List ℕ) (number : ℕ) → comes_from kind lot number ≡ None

module _ (kind : MovementKind) (brings : Brings kind) where
  born_touches : (seq : ℕ) (t : Stamp) (p : Place) (amount : ℕ) → TouchesOnly (line_of seq t kind p.lot p.number amount) p
  born_touches seq t p amount = record {
    entering = λ q apart. ap (λ k. cond (is_sublot_key k q.lot q.number) amount 0) (brings.to p.lot p.number) ∙ ap (λ b. cond b amount 0) (apart_fails p q apart);
    leaving = λ q apart. ap (λ k. cond (is_sublot_key k q.lot q.number) amount 0) (brings.nowhere p.lot p.number);
  }

  -- the column with the row of a new sublot
  sublots_born : (s : State) → DecisionInvariant s → (t : Stamp) (lot : List ℕ) (amount : ℕ) (place : List ℕ) → is_some (lot_at s lot) ≡ false
      → let ms = s.movements ++ line_of s.seq t kind lot 0 amount ∷ [] in
      put sublot_order (record { lot = lot; number = 0; place = place; stock = amount }) (map (sublot_row s.movements) s.places) ≡ map (sublot_row ms) (put place_order (record { lot = lot; number = 0; place = place }) s.places)
  sublots_born s sound t lot amount place none =
      let p : Place = record { lot = lot; number = 0; place = place } in
      let m : Movement = line_of s.seq t kind lot 0 amount in
      let new = s.movements ++ m ∷ [] in
      let away = no_place s sound lot 0 none in
      let comes : entering m lot 0 ≡ amount = ap (λ k. cond (is_sublot_key k lot 0) amount 0) (brings.to lot 0) ∙ ap (λ b. cond b amount 0) (key_itself lot 0) in
      let goes : leaving m lot 0 ≡ 0 = ap (λ k. cond (is_sublot_key k lot 0) amount 0) (brings.nowhere lot 0) in
      let stock : amount ≡ entered new lot 0 - left new lot 0 = omega (arith, entered_push s.movements m lot 0, left_push s.movements m lot 0, nothing_entered s sound lot 0 away, nothing_left s sound lot 0 away) in
      ap (λ n. put sublot_order (record { lot = lot; number = 0; place = place; stock = n }) (map (sublot_row s.movements) s.places)) stock ∙ sublots_put s.movements m p s.places sound.stock.places (born_touches s.seq t p amount)

  pub born_tables : (s : State) → DecisionInvariant s → (t : Stamp) (lot def : List ℕ) (amount : ℕ) (place : List ℕ) → is_some (lot_at s lot) ≡ false
      → changed_all (row.Meta (record { schema = newest_schema; position = record { seq = s.seq + 1; at = t.at } }) ∷ row.Lot (record { id = lot; def = def }) ∷ row.Sublot (record { lot = lot; number = 0; place = place; stock = amount }) ∷ row.Movement (line_of s.seq t kind lot 0 amount) ∷ edge_change (line_of s.seq t kind lot 0 amount)) (tables_of newest_schema s) ≡ record (tables_of newest_schema (born_as s t kind lot def amount place)) { marks = marks s.recalls (edges_of s) }
  born_tables s sound t lot def amount place none =
      let m = line_of s.seq t kind lot 0 amount in
      edge_changed m _ ∙ (λ i. record (tables_of newest_schema (born_as s t kind lot def amount place)) { sublots = sublots_born s sound t lot amount place none i; edges = sym (edges_pushed s.movements m) i; marks = marks s.recalls (edges_of s) })

pub receipt_brings : Brings Received
receipt_brings = record { to = λ lot number. refl; nowhere = λ lot number. refl }

pub production_brings : (batch : List ℕ) → Brings (Produced batch)
production_brings batch = record { to = λ lot number. refl; nowhere = λ lot number. refl }

-- a receipt leaves the marks
pub received_tables : (s : State) → DecisionInvariant s → (t : Stamp) (lot def : List ℕ) (amount : ℕ) (place : List ℕ) → is_some (lot_at s lot) ≡ false
    → changed_all (row.Meta (record { schema = newest_schema; position = record { seq = s.seq + 1; at = t.at } }) ∷ row.Lot (record { id = lot; def = def }) ∷ row.Sublot (record { lot = lot; number = 0; place = place; stock = amount }) ∷ row.Movement (line_of s.seq t Received lot 0 amount) ∷ []) (tables_of newest_schema s) ≡ tables_of newest_schema (born_as s t Received lot def amount place)
received_tables s sound t lot def amount place none =
    born_tables Received receipt_brings s sound t lot def amount place none
    ∙ (λ i. record (tables_of newest_schema (born_as s t Received lot def amount place)) { marks = sym (marks_plain s (line_of s.seq t Received lot 0 amount) refl) i })

-- the marks of a batch as those of a lot
of_lot : (batch lot : List ℕ) (rs : List Recall) → lot_marks lot (map (λ r. mark_on r.id (node.Batch batch)) rs) ≡ map (λ r. mark_on r.id (node.Lot lot)) rs
of_lot batch lot [] = refl
of_lot batch lot (r ∷ rs) = ap (λ (ms : List Mark). mark_on r.id (node.Lot lot) ∷ ms) (of_lot batch lot rs)

-- a production marks its lot by the marks of its batch
pub produced_tables : (s : State) → DecisionInvariant s → (t : Stamp) (c : Produce) (ms : List Mark) → ms ≡ marks_on s (node.Batch c.batch) → is_some (lot_at s c.lot) ≡ false
    → changed_all (produced_rows s.seq t c ms) (tables_of newest_schema s) ≡ tables_of newest_schema (produce s t c)
produced_tables s sound t c ms are none =
    let m = line_of s.seq t (Produced c.batch) c.lot 0 c.amount in
    let prefix : List RowChange = row.Meta (record { schema = newest_schema; position = record { seq = s.seq + 1; at = t.at } }) ∷ row.Lot (record { id = c.lot; def = c.def }) ∷ row.Sublot (record { lot = c.lot; number = 0; place = c.place; stock = c.amount }) ∷ row.Movement m ∷ edge_change m in
    let new : lot_marks c.lot ms ≡ map (λ r. mark_on r.id (node.Lot c.lot)) (recalls_on s.recalls (edges_of s) (node.Batch c.batch)) = ap (lot_marks c.lot) are ∙ of_lot c.batch c.lot (recalls_on s.recalls (edges_of s) (node.Batch c.batch)) in
    changed_append prefix (map row.Mark (lot_marks c.lot ms)) (tables_of newest_schema s)
    ∙ ap (changed_all (map row.Mark (lot_marks c.lot ms))) (born_tables (Produced c.batch) (production_brings c.batch) s sound t c.lot c.def c.amount c.place none)
    ∙ marks_changed (lot_marks c.lot ms) _
    ∙ (λ i. record (tables_of newest_schema (produce s t c)) { marks = (ap (λ (xs : List Mark). put_all mark_order xs (marks s.recalls (edges_of s))) new ∙ sym (marks_made s sound m c.batch c.lot refl none)) i })
