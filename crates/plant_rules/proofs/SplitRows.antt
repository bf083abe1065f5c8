-- The rows of a split make the tables of the next state.
use Rattle.std.proofs.Common.{◌≡◌, ◌∙◌, ℕ, ◌-◌, false, map, Some, is_some, refl, sym, ap}
use Rattle.plant_base.specs.{State, put, newest_schema, lot_order, lot_at, Lot, Place, Split, Stamp, Sublot}
use Rattle.plant_base.specs.declared.rows.MovementKind.TheVariants as kind
use Rattle.plant_rules.specs.{line_of, def_of, split, split_rows}
use Rattle.plant_view.specs.{IsSublotAt, sublot_order, sublot_row, tables_of, changed_all, is_blocked}
use Rattle.plant_view.specs.DecisionInvariant.{DecisionInvariant}
use Rattle.plant_trace.specs.declared.node.Node.TheVariants as node
use Rattle.plant_view.proofs.MarksAfterMovement.{marks_free}
use Rattle.plant_view.proofs.EdgeRowOrder.{edges_pushed}
use Rattle.plant_rules.proofs.DivideRows.{sublots_parted}
use Rattle.plant_view.proofs.StockColumn.{no_place}

pub split_tables : (s : State) → DecisionInvariant s → (t : Stamp) (c : Split) (lot : Lot) (sublot : Sublot) → lot_at s c.lot ≡ Some lot → IsSublotAt s c.lot c.sub sublot → is_some (lot_at s c.new) ≡ false → is_blocked s c.lot ≡ false
    → changed_all (split_rows s.seq t c lot sublot) (tables_of newest_schema s) ≡ tables_of newest_schema (split s t c)
split_tables s sound t c lot sublot known at none free =
    let p : Place = record { lot = c.lot; number = c.sub; place = sublot.place } in
    let q : Place = record { lot = c.new; number = 0; place = c.place } in
    let column = λ (n : ℕ). put sublot_order (record { lot = c.new; number = 0; place = c.place; stock = c.amount }) (put sublot_order (record { lot = c.lot; number = c.sub; place = sublot.place; stock = n - c.amount }) (map (sublot_row s.movements) s.places)) in
    λ i. record (tables_of newest_schema (split s t c)) { lots = put lot_order (record { id = c.new; def = def_of (sym known i) }) s.lots; sublots = (ap column at.1 ∙ sublots_parted s sound t (kind.Split c.new) p q c.amount refl refl at.0 (no_place s sound c.new 0 none)) i; edges = sym (edges_pushed s.movements (line_of s.seq t (kind.Split c.new) c.lot c.sub c.amount)) i; marks = sym (marks_free s (line_of s.seq t (kind.Split c.new) c.lot c.sub c.amount) c.lot (node.Lot c.new) refl free) i }
