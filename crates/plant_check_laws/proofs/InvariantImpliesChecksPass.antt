-- The tables of a valid state break no rule, and are read again.
use Rattle.std.proofs.Common.{◌≡◌, ◌∙◌, ℕ, ◌≤◌, nat_le, true, List, map, Some, None, is_some, refl, sym, ap, subst, arith}
use Rattle.std.specs.List.{AllByRecursion}
use Rattle.std.proofs.lemmas.Bool.{and_from}
use Rattle.sqlite.specs.Effect.{Database}
use Rattle.plant_base.specs.{State, greatest_amount, Batch, BatchRow, Header, Movement, Place, Recall, Sublot}
use Rattle.plant_view.proofs.ListLemmas.{all_weaker, map_back, all_two, all_of, all_mapped}
use Rattle.plant_recipe.specs.{is_well_formed}
use Rattle.plant_view.specs.DecisionInvariant.{DecisionInvariant}
use Rattle.plant_view.specs.{headers_of, lines_among, IsConsistentRecipe, IsConsistentRun, edges_among, recalls_in, tables_of, edges_in, batch_row, batch_of_row, sublot_row, place_of_row}
use Rattle.plant_invariant.specs.StateInvariant.{StateInvariant}
use Rattle.plant_tables.specs.{HoldsTablesOf, LacksLater}
use Rattle.plant_tables.specs.{AreLoaded, IsKnown, Loaded, Rows, rows_from, rows_in}
use Rattle.plant_tables_columns.specs.{movement_from, booked_of, recall_from, stated_of}
use Rattle.plant_tables_columns.proofs.MovementColumns.{movement_again}
use Rattle.plant_tables_columns.proofs.RecallColumns.{recall_again}
use Rattle.plant_tables.proofs.RowsReadAgain.{read_again}
use Rattle.plant_tables.proofs.EachTable.{rows_back}
use Rattle.plant_requirements.specs.{are_marks}
use Rattle.plant_check_rules.specs.{movements_in, recalls_read, first_broken_of, broken_rows, first_broken, are_stocks, are_lots}
use Rattle.plant_check_rules.proofs.BookedRowsMove.{amount_entered}
use Rattle.plant_invariant_tables.proofs.TablesHaveValidValues.{in_order, valid_values}
use Rattle.plant_check_laws.specs.{state_in}
use Rattle.plant_check_laws.proofs.BatchesExact.{right_batches}
use Rattle.plant_check_laws.proofs.ExactTests.{all_joined, all_mapped_exact, passing}
use Rattle.plant_check_laws.proofs.DescentExact.{movements_again, acyclic_exact, edges_exact}
use Rattle.plant_check_laws.proofs.EventsExact.{HasRun, events_exact}
use Rattle.plant_check_laws.proofs.LotsExact.{IsSmall, lots_exact}
use Rattle.plant_check_laws.proofs.MomentsExact.{moments_exact}
use Rattle.plant_check_laws.proofs.MovementsExact.{IsRight, movements_exact}
use Rattle.plant_check_laws.proofs.NumbersExact.{right_merges, right_numbers}
use Rattle.plant_check_laws.proofs.OrdersExact.{Closes, right_orders}
use Rattle.plant_check_laws.proofs.RecallsExact.{recalls_pass, marks_pass}
use Rattle.plant_check_laws.proofs.ReceiptsExact.{receipts_pass}
use Rattle.plant_check_laws.proofs.RecipesExact.{classes_exact, listed_recipes}
use Rattle.plant_check_rules.specs.declared.rule.Rule.TheVariants as rule
use Rattle.plant_check_laws.proofs.RulesExact.{PassesAll, rules_passed, tables_passed}
use Rattle.plant_check_laws.proofs.StocksExact.{IsStocked, stocks_exact}

module _ (schema : ℕ) (s : State) (valid : StateInvariant s) where
  abbrev rows : Rows
  rows = rows_in (tables_of schema s)

  abbrev ms : List Movement
  ms = movements_in rows.movements

  -- ---- the state of the rows is that state again

  -- with the receipts and the recalls that the schema may lack
  abbrev state_again : State
  state_again = record (state_in rows) { receipts = s.receipts; recalls = s.recalls }

  again : state_again ≡ s
  again = λ i. record s {
    batches = map_back batch_of_row (batch_row s.control_lines s.events) (λ b. refl) s.batches i;
    places = map_back place_of_row (sublot_row s.movements) (λ p. refl) s.places i;
    movements = movements_again s i;
  }

  valid_again : StateInvariant state_again
  valid_again = subst StateInvariant (sym again) valid

  sound : DecisionInvariant state_again
  sound = valid_again.sound

  booked_again : rows.movements ≡ map booked_of ms
  booked_again = ap (map booked_of) (sym (movements_again s))

  -- ---- what the rules say

  formed : AllByRecursion (λ (h : Header). is_well_formed h (lines_among s.master_lines h.recipe h.version) ≡ true) (headers_of s.recipes)
  formed = all_weaker (IsConsistentRecipe s.definitions s.master_lines) _ (λ h w. w.formed) (headers_of s.recipes) valid.sound.recipes.whole

  -- of each batch
  of_batches : (P : BatchRow → Type 0) → ((b : Batch) → IsConsistentRun s.jobs s.control_lines s.events b → P (batch_row s.control_lines s.events b)) → AllByRecursion P rows.batches
  of_batches P f = all_mapped P (batch_row s.control_lines s.events) s.batches (all_weaker (IsConsistentRun s.jobs s.control_lines s.events) _ f s.batches valid.sound.production.runs)

  stocked : AllByRecursion (IsStocked ms) rows.sublots
  stocked = subst (λ xs. AllByRecursion (IsStocked xs) rows.sublots) (sym (movements_again s))
      (all_mapped (IsStocked s.movements) (sublot_row s.movements) s.places (all_of _ (λ (p : Place). omega (arith, valid.sound.stock.covered p.lot p.number)) s.places))

  small : AllByRecursion (IsSmall ms) rows.sublots
  small = all_of (IsSmall ms) (λ (r : Sublot) zero. subst (λ n. n ≤ greatest_amount) (sym (amount_entered ms r.lot r.number)) (sound.stock.small r.lot r.number)) rows.sublots

  moved : AllByRecursion (IsRight state_again) ms
  moved =
      let named = all_joined _ _ ms sound.stock.named sound.genealogy.batched in
      let defined = all_joined _ _ ms sound.stock.one_material valid_again.kept in
      all_two _ _ (IsRight state_again) (λ (m : Movement) known other. record { named = known.0; batched = known.1; defined = other.0; merge = other.1 }) ms named
      (all_joined _ _ ms defined (right_merges ms valid_again.numbers.bookings))

  lots : are_lots s.definitions s.lots rows.sublots s.holds (map booked_of ms) ≡ true
  lots = (lots_exact s.definitions s.lots rows.sublots s.holds ms).1 (record { defined = sound.catalogue.defined; housed = sound.stock.housed; placed = sound.bars.placed; births = valid_again.births; small = small })

  passes : PassesAll rows
  passes rule.Tables = refl
  passes rule.Values = refl
  passes rule.Classes = (classes_exact s.classes s.definitions).1 sound.catalogue.classified
  passes rule.Recipes = listed_recipes s.definitions s.recipes s.master_lines sound.recipes
  passes rule.Orders = right_orders s.recipes rows.batches s.jobs sound.production.orders (of_batches (Closes s.jobs) (λ b run. run.finished))
  passes rule.Batches = right_batches s.recipes s.master_lines s.jobs formed sound.production.orders.sized rows.batches s.control_lines s.events sound.production.batches
  passes rule.Stocks = subst (λ xs. are_stocks xs rows.sublots ≡ true) (sym booked_again) ((stocks_exact ms rows.sublots).1 stocked)
  passes rule.Lots = subst (λ xs. are_lots s.definitions s.lots rows.sublots s.holds xs ≡ true) (sym booked_again) lots
  passes rule.Movements = and_from _ _ ((all_mapped_exact (λ r. is_some (movement_from r)) booked_of _ (λ m. passing _) s.movements).1 (all_of _ (λ (m : Movement). ap is_some (movement_again m)) s.movements))
      ((movements_exact state_again rows.sublots rows.batches sound.stock.housed).1 moved)
  passes rule.Events = (events_exact s.control_lines s.events rows.batches).1 (of_batches (HasRun s.control_lines s.events) (λ b run. record { allowed = run.allowed; kept = refl }), sound.production.batches.witnessed)
  passes rule.Numbers = and_from _ _ (right_numbers s.seq s.events ms valid_again.numbers) ((moments_exact s.at ms s.events rows.batches s.holds).1 valid_again.moments)
  passes rule.Descent = and_from _ _ ((acyclic_exact (edges_among ms)).1 sound.genealogy.acyclic) ((edges_exact schema rows.edges ms).1 (ap (edges_in schema) (sym (movements_again s))))
  passes rule.Receipts = receipts_pass (nat_le 3 schema) s.seq s.receipts valid.receipts
  passes rule.Recalls = and_from _ _ ((all_mapped_exact (λ r. is_some (recall_from r)) stated_of _ (λ r. passing _) (recalls_in schema s.recalls)).1 (all_of _ (λ (r : Recall). ap is_some (recall_again r)) (recalls_in schema s.recalls)))
      (and_from _ _ (recalls_pass schema s valid.recalls) (subst (λ xs. are_marks (recalls_read rows.recalls) xs rows.marks ≡ true) (sym (movements_again s)) (marks_pass schema s)))

  pub valid_unbroken : first_broken_of rows ≡ None
  valid_unbroken = (rules_passed rows).1 passes

pub read_valid : (schema : ℕ) (db : Database) (s : State) (x : Loaded) → IsKnown schema → StateInvariant s → HoldsTablesOf schema db (tables_of schema s) → AreLoaded schema db x
    → (rows_from x ≡ Some (rows_in (tables_of schema s))) × (first_broken x ≡ None)
read_valid schema db s x known valid holds loaded =
    let lacks : LacksLater schema (tables_of schema s) = record {
      edges = λ none. rw none refl;
      receipts = λ none. rw none refl;
      recalls = λ none. rw none refl;
      marks = λ none. rw none refl;
    } in
    let read = read_again schema db (tables_of schema s) holds lacks (in_order schema s valid) (valid_values s valid schema known) x loaded in
    (read, (tables_passed x).1 (ap is_some (rows_back x (rows_in (tables_of schema s)) read).meta, ap broken_rows read ∙ valid_unbroken schema s valid))
