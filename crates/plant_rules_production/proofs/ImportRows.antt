-- What is decided of the orders that were found, and the rows of an import.
use Rattle.std.proofs.Common.{◌≡◌, ◌∙◌, ℕ, ◌+◌, true, false, cond, List, [], ◌∷◌, map, filter, None, is_none, refl, sym, ap, not}
use Rattle.std.specs.List.{list_any}
use Rattle.plant_base.specs.{State, newest_schema, job_order, recipe_at, job_at, ImportOrders, OrderRow, Stamp}
use Rattle.plant_base.specs.declared.refusal.Refusal.TheVariants.{UnknownRecipe, OrderConflict, SizeOutOfRange, TooMany}
use Rattle.plant_view.specs.{Decision, refuse, at_limit, is_size_of_recipe, IsDecided, put_all, tables_of, changed, changed_all, Decides}
use Rattle.plant_view.specs.declared.change.Decision.TheVariants.{Change, Refused, Repeat}
use Rattle.plant_view.specs.declared.change.RowChange.TheVariants as row
use Rattle.plant_rules_production.specs.declared.orders.FoundOrder.{FoundOrder}
use Rattle.plant_rules_production.specs.{conflicts, opened, new_orders, found_order, is_unplanned, is_conflict, is_oversize, is_new, wrong_found_orders, wrong_import_orders, import_orders, import_rows}
use Rattle.plant_view.specs.TableRows.{Tables}
use Rattle.plant_view.proofs.ListLemmas.{any_map}

-- ---- rows

rows_of_new : (s : State) (orders : List OrderRow) → map (λ f. row.Job (opened f.order)) (filter is_new (map (found_order s) orders)) ≡ map (λ o. row.Job (opened o)) (new_orders s orders)
rows_of_new s [] = refl
rows_of_new s (o ∷ os) = elim (is_none (job_at s o.order)) as (λ b. map (λ (f : FoundOrder). row.Job (opened f.order)) (cond b (found_order s o ∷ filter is_new (map (found_order s) os)) (filter is_new (map (found_order s) os))) ≡ map (λ (x : OrderRow). row.Job (opened x)) (cond b (o ∷ new_orders s os) (new_orders s os))) [
  | true ↦ ap (λ rows. row.Job (opened o) ∷ rows) (rows_of_new s os)
  | false ↦ rows_of_new s os
]

jobs_changed : (orders : List OrderRow) (t : Tables) → changed_all (map (λ o. row.Job (opened o)) orders) t ≡ record t { jobs = put_all job_order (map opened orders) t.jobs }
jobs_changed [] t = refl
jobs_changed (o ∷ os) t = jobs_changed os (changed (row.Job (opened o)) t)

import_tables : (s : State) (t : Stamp) (c : ImportOrders) → changed_all (import_rows s.seq t (map (found_order s) c.orders)) (tables_of newest_schema s) ≡ tables_of newest_schema (import_orders s t c)
import_tables s t c =
    let after = changed (row.Meta (record { schema = newest_schema; position = record { seq = s.seq + 1; at = t.at } })) (tables_of newest_schema s) in
    ap (λ rows. changed_all rows after) (rows_of_new s c.orders) ∙ jobs_changed (new_orders s c.orders) after

-- ---- conditions

wrong_same : (s : State) (c : ImportOrders) → wrong_import_orders s c ≡ wrong_found_orders s.seq c.orders (map (found_order s) c.orders)
wrong_same s c =
    let unplanned : list_any is_unplanned (map (found_order s) c.orders) ≡ list_any (λ (o : OrderRow). is_none (recipe_at s o.recipe o.version)) c.orders = any_map is_unplanned (found_order s) c.orders in
    let conflict : list_any (is_conflict c.orders) (map (found_order s) c.orders) ≡ list_any (λ (o : OrderRow). conflicts c.orders (job_at s o.order) o) c.orders = any_map (is_conflict c.orders) (found_order s) c.orders in
    let oversize : list_any is_oversize (map (found_order s) c.orders) ≡ list_any (λ (o : OrderRow). not (is_size_of_recipe (recipe_at s o.recipe o.version) o.size)) c.orders = any_map is_oversize (found_order s) c.orders in
    λ i. refuse (sym unplanned i) UnknownRecipe (refuse (sym conflict i) OrderConflict (refuse (sym oversize i) SizeOutOfRange (refuse (at_limit s) TooMany None)))

-- what is decided of the orders that were found is what is decided of the state
pub import_decides : (s : State) (t : Stamp) (c : ImportOrders) (seq : ℕ) (found : List FoundOrder) → seq ≡ s.seq → found ≡ map (found_order s) c.orders
    → (d : Decision) → IsDecided (wrong_found_orders seq c.orders found) (import_rows seq t found) d → Decides (wrong_import_orders s c) s (import_orders s t c) d
import_decides s t c seq found seq_is found_is (Refused r) e = wrong_same s c ∙ (λ i. wrong_found_orders (sym seq_is i) c.orders (sym found_is i)) ∙ e
import_decides s t c seq found seq_is found_is (Change changes) e = (
  wrong_same s c ∙ (λ i. wrong_found_orders (sym seq_is i) c.orders (sym found_is i)) ∙ e.0,
  ap (λ rows. changed_all rows (tables_of newest_schema s)) (e.1 ∙ (λ i. import_rows (seq_is i) t (found_is i))) ∙ import_tables s t c,
)
import_decides s t c seq found seq_is found_is (Repeat n) e = absurd e
