-- Rows that break no rule are those of a valid state's tables.
use Rattle.std.proofs.Common.{◌≡◌, ◌∙◌, ◌≤◌, nat_le, Bool, true, false, List, [], map, Option, Some, None, is_some, refl, sym, ap, subst, if◌then◌else◌}
use Rattle.std.specs.List.{AllByRecursion}
use Rattle.plant_base.specs.{greatest_sublot, edge_order, mark_order, batch_order, place_order, Header, Movement, OrderRow, Place}
use Rattle.std.specs.List.Sorted.{IsStrictlySortedBy}
use Rattle.plant_view.proofs.ListLemmas.{and_left, and_right, all_weaker, all_mapped, each_passes, sorted_mapped}
use Rattle.plant_recipe.specs.{is_well_formed}
use Rattle.plant_stock.specs.{goes_to, comes_from}
use Rattle.plant_view.specs.{edges_among, recalls_in, marks_in, IsThere, headers_of, header_among, lines_among, orders_of, is_size_of_some, is_batch_among, tables_of, edges_in, receipts_in, place_of_row, batch_row, batch_of_row}
use Rattle.plant_view.specs.DecisionInvariant.{DecisionInvariant}
use Rattle.plant_invariant.specs.StateInvariant.{StateInvariant}
use Rattle.plant_invariant.specs.{HasRowValues, HasPlaceValues, HasMovementValues}
use Rattle.sql_tables.specs.{HasStoredRows}
use Rattle.plant_tables.specs.{contents_of}
use Rattle.plant_tables_columns.specs.{movement_from, booked_of, recall_from, BookedRow}
use Rattle.plant_tables.specs.{Rows, rows_from, tables_in, AreWhole, AreInOrder}
use Rattle.plant_tables.proofs.RowsRepresentTables.{are_stored, represents_for}
use Rattle.plant_check_rules.specs.{movements_in, recalls_read, broken_rows, first_broken_of, are_stocks, are_lots}
use Rattle.plant_view.proofs.EdgeRowOrder.{edges_sorted}
use Rattle.plant_check_laws.specs.{state_in, UnbrokenIsRead, ChecksPassImpliesInvariant, UnbrokenHolds}
use Rattle.plant_check_laws.proofs.RowsMadeOfRows.{all_gathered, joined_again}
use Rattle.plant_check_laws.proofs.BatchesExact.{control_numbered, consistent_batches, consistent_runs}
use Rattle.plant_check_laws.proofs.BookedRowIsMovement.{all_booked, movement_values}
use Rattle.plant_check_laws.proofs.DescentExact.{acyclic_exact, edges_exact}
use Rattle.plant_check_laws.proofs.EventsExact.{HasRun, events_exact}
use Rattle.plant_check_laws.proofs.LotsExact.{AreRightLots, lots_exact}
use Rattle.plant_check_laws.proofs.MomentsExact.{moments_exact}
use Rattle.plant_check_laws.proofs.MovementsExact.{IsRight, movements_exact}
use Rattle.plant_check_laws.proofs.NumbersExact as numbers
use Rattle.plant_check_laws.proofs.OrdersExact.{orders_exact, sized_orders, consistent_orders}
use Rattle.plant_check_laws.proofs.RecallsExact.{valid_recalls, sorted_marks, kept_marks}
use Rattle.plant_check_laws.proofs.ReceiptsExact.{contents_there, valid_receipts}
use Rattle.plant_check_laws.proofs.RecipesExact as recipes
use Rattle.plant_check_laws.proofs.RecipesExact.{classes_exact, IsListed, recipes_exact, consistent_recipes}
use Rattle.plant_check_laws.proofs.RowsInKeyOrder.{in_order, receipts_none, recalls_none}
use Rattle.plant_check_rules.specs.declared.rule.Rule.TheVariants as rule
use Rattle.plant_check_laws.proofs.RulesExact.{PassesAll, rules_passed, tables_passed}
use Rattle.plant_check_laws.proofs.StocksExact.{IsStocked, stocks_exact, all_covered, all_small, same_sublots}
use Rattle.plant_check_laws.proofs.ValuesSound.{HaveValues, HasSublotValues, have_values}
use Rattle.plant_tables_columns.proofs.TableLaws.{HasBookedColumns}

module _ (r : Rows) (p : PassesAll r) where
  abbrev ms : List Movement
  ms = movements_in r.movements

  whole_movements : AllByRecursion (λ m. is_some (movement_from m) ≡ true) r.movements
  whole_movements = each_passes (λ m. is_some (movement_from m)) r.movements (and_left _ _ (p rule.Movements))

  -- the rows of table movement are those that book the movements
  booked : r.movements ≡ map booked_of ms
  booked = all_booked r.movements whole_movements

  -- ---- what the rules say

  formed : AllByRecursion (λ (h : Header). is_well_formed h (lines_among r.master_lines h.recipe h.version) ≡ true) (headers_of r.recipes)
  formed = all_weaker (IsListed r.definitions r.master_lines) _ (λ h w. w.formed) (headers_of r.recipes) ((recipes_exact r.definitions r.recipes r.master_lines).0 (p rule.Recipes)).0

  sized : AllByRecursion (λ (o : OrderRow). is_size_of_some (header_among (headers_of r.recipes) o.recipe o.version) o.size ≡ true) (orders_of r.jobs)
  sized = sized_orders r.recipes r.batches r.jobs (p rule.Orders)

  runs : AllByRecursion (HasRun r.control_lines r.events) r.batches × AllByRecursion (λ e. is_batch_among (map batch_of_row r.batches) e.batch ≡ true) r.events
  runs = (events_exact r.control_lines r.events r.batches).0 (p rule.Events)

  lots : AreRightLots r.definitions r.lots r.sublots r.holds ms
  lots = (lots_exact r.definitions r.lots r.sublots r.holds ms).0 (subst (λ rows. are_lots r.definitions r.lots r.sublots r.holds rows ≡ true) booked (p rule.Lots))

  stocked : AllByRecursion (IsStocked ms) r.sublots
  stocked = (stocks_exact ms r.sublots).0 (subst (λ rows. are_stocks rows r.sublots ≡ true) booked (p rule.Stocks))

  moved : AllByRecursion (IsRight (state_in r)) ms
  moved = (movements_exact (state_in r) r.sublots r.batches lots.housed).0 (and_right _ _ (p rule.Movements))

  -- what it says of each movement
  of_each : (P : Movement → Type 0) → ((m : Movement) → IsRight (state_in r) m → P m) → AllByRecursion P ms
  of_each P f = all_weaker (IsRight (state_in r)) P f ms moved

  named : AllByRecursion (λ m. IsThere (state_in r) (goes_to m.kind m.lot m.sub) × IsThere (state_in r) (comes_from m.kind m.lot m.sub)) ms
  named = of_each _ (λ m h. h.named)

  whole : AreWhole r
  whole = record {
    master_lines = recipes.lines_numbered r.definitions r.recipes r.master_lines (p rule.Recipes);
    control_lines = control_numbered r.recipes r.master_lines r.jobs formed sized r.batches r.control_lines (p rule.Batches);
    movement_lines = subst (AllByRecursion (λ (m : BookedRow). 1 ≤ m.line)) (sym booked) (all_mapped (λ (m : BookedRow). 1 ≤ m.line) booked_of ms (numbers.lines_numbered r.meta.position.seq r.events ms (and_left _ _ (p rule.Numbers))));
    movements = whole_movements;
    contents = contents_there r.meta.position.seq r.receipts (p rule.Receipts);
    recalls = each_passes (λ q. is_some (recall_from q)) r.recalls (and_left _ _ (p rule.Recalls));
  }

  module _ (v : HaveValues r) where
    values_moved : AllByRecursion HasMovementValues ms
    values_moved = all_gathered movement_from HasBookedColumns HasMovementValues movement_values r.movements v.movements

    values : HasRowValues (state_in r)
    values = record {
      seq = v.meta.seq;
      at = v.meta.at;
      classes = v.classes;
      definitions = v.definitions;
      master_lines = v.master_lines;
      control_lines = v.control_lines;
      events = v.events;
      lots = v.lots;
      places = all_mapped HasPlaceValues place_of_row r.sublots (all_weaker HasSublotValues (λ s. HasPlaceValues (place_of_row s)) (λ s h. record { lot = h.lot; number = h.number; place = h.place }) r.sublots v.sublots);
      movements = values_moved;
      holds = v.holds;
    }

    module _ (o : AreInOrder (tables_in r)) where
      sound : DecisionInvariant (state_in r)
      sound = record {
        catalogue = record {
          classes = o.keyed.classes;
          definitions = o.keyed.definitions;
          classified = (classes_exact r.classes r.definitions).0 (p rule.Classes);
          defined = lots.defined;
        };
        recipes = consistent_recipes r.definitions r.recipes r.master_lines (p rule.Recipes) v.recipes v.master_lines o.keyed.recipes o.keyed.master_lines;
        production = record {
          orders = consistent_orders r.recipes r.batches r.jobs (p rule.Orders) o.keyed.jobs v.jobs;
          batches = consistent_batches r.recipes r.master_lines r.jobs formed sized r.batches r.control_lines (p rule.Batches) r.events (sorted_mapped batch_order batch_of_row r.batches o.keyed.batches) o.keyed.control_lines v.batches runs.1;
          runs = consistent_runs r.recipes r.master_lines r.jobs formed sized r.batches r.control_lines (p rule.Batches) r.events ((orders_exact r.recipes r.batches r.jobs).0 (p rule.Orders)) runs.0;
        };
        stock = record {
          lots = o.keyed.lots;
          places = sorted_mapped place_order place_of_row r.sublots o.keyed.sublots;
          housed = lots.housed;
          numbered = all_mapped (λ (q : Place). q.number ≤ greatest_sublot) place_of_row r.sublots (all_weaker HasSublotValues (λ s. s.number ≤ greatest_sublot) (λ s h. h.number) r.sublots v.sublots);
          named = named;
          one_material = of_each _ (λ m h. h.defined.0);
          small = all_small (state_in r) r.sublots named lots.births.each lots.small values_moved;
          covered = all_covered (state_in r) r.sublots named stocked;
        };
        genealogy = record { batched = of_each _ (λ m h. h.batched); acyclic = (acyclic_exact (edges_among ms)).0 (and_left _ _ (p rule.Descent)) };
        bars = record { holds = o.keyed.holds; placed = lots.placed; recalls = o.keyed.recalls };
      }

      valid : StateInvariant (state_in r)
      valid = record {
        sound = sound;
        values = values;
        births = lots.births;
        kept = of_each _ (λ m h. h.defined.1);
        numbers = numbers.consistent_numbers r.meta.position.seq r.events ms (and_left _ _ (p rule.Numbers)) o.movements o.events (of_each _ (λ m h. h.merge));
        moments = (moments_exact r.meta.position.at ms r.events r.batches r.holds).0 (and_right _ _ (p rule.Numbers));
        receipts = valid_receipts r.meta.position.seq r.receipts o.keyed.receipts v.receipts (p rule.Receipts);
        recalls = valid_recalls r.meta.position.at r.lots r.recalls v.recalls (and_left _ _ (and_right _ _ (p rule.Recalls)));
      }

  -- the edges are those of the movements
  edges : r.edges ≡ edges_in r.meta.schema ms
  edges = (edges_exact r.meta.schema r.edges ms).0 (and_right _ _ (p rule.Descent))

  sorted_edges : IsStrictlySortedBy edge_order r.edges
  sorted_edges = subst (IsStrictlySortedBy edge_order) (sym edges) (edges_sorted r.meta.schema ms)

  marks_rise : IsStrictlySortedBy mark_order r.marks
  marks_rise = sorted_marks (recalls_read r.recalls) ms r.marks (and_right _ _ (and_right _ _ (p rule.Recalls)))

  same_tables : r.receipts ≡ receipts_in r.meta.schema r.receipts → recalls_read r.recalls ≡ recalls_in r.meta.schema (recalls_read r.recalls) → r.marks ≡ marks_in r.meta.schema (recalls_read r.recalls) ms
      → tables_in r ≡ tables_of r.meta.schema (state_in r)
  same_tables receipts recalls marks =
      let batches = joined_again batch_of_row (batch_row r.control_lines r.events) r.batches (all_weaker (HasRun r.control_lines r.events) _ (λ b h. h.kept) r.batches runs.0) in
      let sublots = same_sublots ms r.sublots stocked in
      λ i. record (tables_in r) { batches = sym batches i; sublots = sym sublots i; edges = edges i; receipts = receipts i; recalls = recalls i; marks = marks i }

-- rows that a schema keeps, or none
kept_in : {R : Type 0} (keeps : Bool) (rs : List R) → (keeps ≡ false → rs ≡ []) → rs ≡ (if keeps then rs else [])
kept_in true rs none = refl
kept_in false rs none = none refl

pub unbroken_valid : ChecksPassImpliesInvariant
unbroken_valid x r u =
    let p = (rules_passed r).0 u.unbroken in
    let w = whole r p in
    let stored = are_stored x r u.read w in
    let schema = r.meta.schema in
    let recalls = recalls_read r.recalls in
    let no_receipts = receipts_none schema x r.receipts u.rising stored.receipts in
    let no_recalls = recalls_none schema x recalls u.rising stored.recalls in
    record {
      valid = valid r p (have_values x r u.read) (in_order schema x r u.rising u.read w (sorted_edges r p) (marks_rise r p));
      whole = w;
      tables = same_tables r p (kept_in (nat_le 3 schema) r.receipts no_receipts) (kept_in (nat_le 4 schema) recalls no_recalls)
          (kept_marks recalls (movements_in r.movements) r.marks (and_right _ _ (and_right _ _ (p rule.Recalls))) (nat_le 4 schema) no_recalls);
    }

pub unbroken_holds : UnbrokenHolds
unbroken_holds db x r u have_rows =
    let g = unbroken_valid x r u in
    record {
      sound = have_rows.sound;
      each = λ i table_def e. subst (HasStoredRows db table_def) (represents_for x r u.read g.whole r.meta.schema i table_def e ∙ ap (λ t. contents_of t i) g.tables) (have_rows.each i table_def e);
    }

rows_of : (rows : Option Rows) → broken_rows rows ≡ None → (r : Rows) × (rows ≡ Some r) × (first_broken_of r ≡ None)
rows_of None e = absurd (cc)
rows_of (Some r) e = (r, refl, e)

pub unbroken_read : UnbrokenIsRead
unbroken_read x e = rows_of (rows_from x) ((tables_passed x).0 e).1
