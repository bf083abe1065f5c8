-- What a page of a list finds whose keys are of two values.
use Rattle.std.proofs.Common.{◌≡◌, ◌∙◌, ℕ, ◌+◌, Bool, true, false, ◌&&◌, ◌||◌, List, [], ◌∷◌, filter, map, Option, Some, refl, ap, ap₂, sym, is_eq, is_gt, nat_cmp, Ordering, Less, Equal, Greater}
use Rattle.std.specs.Cmp.{IsTotalOrder}
use Rattle.std.specs.List.{AllByRecursion}
use Rattle.std.specs.List.Sorted.{IsStrictlySortedBy}
use Rattle.std.specs.Ordering.{ordering_then}
use Rattle.std.proofs.lemmas.Bool.{false≢true}
use Rattle.std.proofs.lemmas.Cmp.{nat_cmp_total, nat_list_cmp_total, on_total, then_total}
use Rattle.sqlite.specs.Effect.{Database}
use Rattle.sqlite.specs.Order.{Row}
use Rattle.sqlite.specs.declared.types.Value.{Value}
use Rattle.sqlite.specs.declared.types.Value.TheVariants.{Text}
use Rattle.sqlite_trees.proofs.ListLemmas.{all-permutation}
use Rattle.sqlite_value.specs.Order.{value_cmp}
use Rattle.sqlite_value.proofs.OrderLemmas.{value_cmp-Text}
use Rattle.plant_base.specs.{State, newest_schema, id_cmp, same, recipe_order, movement_order, job_order, recipe_state_name, job_state_name, Job, JobState, Movement, MovementKind, Recipe, RecipeState}
use Rattle.plant_base.specs.declared.rows.MovementKind.TheVariants as kind
use Rattle.plant_view.specs.{tables_of, is_named}
use Rattle.plant_view.proofs.RowKeys.{recipe_order_total}
use Rattle.plant_invariant.specs.StateInvariant.{StateInvariant}
use Rattle.sql_tables.specs.{TableDef, HasStoredRows}
use Rattle.sql_queries.specs.{is_beyond, stored_order, first_of}
use Rattle.plant_tables.specs.{recipe_table, movement_table, job_table, HoldsTables}
use Rattle.plant_tables_columns.specs.{other_lot, number, HasRecipeValues, HasMovementRowValues, HasJobValues, HasValidValues, row_of_recipe, row_of_movement, row_of_job, recipe_from, movement_read, job_from}
use Rattle.plant_tables_columns.proofs.RowLaws.{recipe_reads, job_reads}
use Rattle.plant_invariant_tables.proofs.TablesHaveValidValues.{in_order, valid_values, newest_known}
use Rattle.plant_questions.specs.{page_size, page_of, recipe_after, recipes_in, movement_after, is_movement_after, lot_made, is_in_ledger, ledger_of, due_after, due_order, orders_by_due, Cursor, Page, in_order as as_sorted}
use Rattle.plant_questions.proofs.MergedLists.{merged_filters}
use Rattle.plant_keyed.specs.{IsOfBoth, IsPagedBeyond}
use Rattle.plant_keyed.proofs.SortedPermutationIsUnique.{IsOnce, kept_in_order, once_by_key, ordered}
use Rattle.plant_keyed.proofs.PagesFind.{by_number, by_text_number, by_two_texts, number_cmp}
use Rattle.plant_keyed.proofs.PageIsFirstRows.{page_again, relisted}
use Rattle.plant_keyed.proofs.RowsShown.{movement_again}
use Rattle.plant_keyed.proofs.ComparisonTests.{named_is, text_is}
use Rattle.std.proofs.Math.Bool.{or-false, and-or_distrib_right}

-- after the cursor of two values: with its first value and after its second, or after its first
after : (s : Bool) (o p : Ordering) → ((s && (is_eq o && is_gt p)) || (s && is_gt o)) ≡ (s && is_gt (ordering_then o p))
after false o p = refl
after true Less p = refl
after true Equal p = or-false (is_gt p)
after true Greater p = refl

module _ {R : Type 0} (row_from : Row → Option R) (written : R → Row) (P : R → Type 0) (again : (r : R) → P r → row_from (written r) ≡ Some r) (table_def : TableDef) (by : List ℕ) (order : R → R → Ordering) (total : IsTotalOrder order)
    (by_columns : (a b : R) → order a b ≡ stored_order by (written a) (written b))
    (db : Database) (rs : List R) (represents : HasStoredRows db table_def (map written rs)) (sorted : IsStrictlySortedBy order rs) (all : AllByRecursion P rs)
    (place next last : ℕ) (given first second : Value) (s : R → Bool) (o p : R → Ordering)
    (near : (r : R) → is_beyond (place ∷ next ∷ []) last (given ∷ first ∷ second ∷ number (page_size + 1) ∷ []) (written r) ≡ (s r && (is_eq (o r) && is_gt (p r))))
    (far : (r : R) → is_beyond (place ∷ []) next (given ∷ first ∷ number (page_size + 1) ∷ []) (written r) ≡ (s r && is_gt (o r))) where
  abbrev is_near : R → Bool
  is_near r = s r && (is_eq (o r) && is_gt (p r))

  abbrev is_far : R → Bool
  is_far r = s r && is_gt (o r)

  -- the rows of such a page are the first of those that come after the cursor
  pub beyond_again : (page : Page R) → IsPagedBeyond db table_def by row_from order place next last given first second page → page ≡ page_of (filter (λ r. s r && is_gt (ordering_then (o r) (p r))) rs)
  beyond_again page is =
      let one = page_again row_from written P again table_def by order by_columns db rs represents sorted all (place ∷ next ∷ []) last (given ∷ first ∷ second ∷ number (page_size + 1) ∷ []) is_near near is.first is.of_first in
      let other = page_again row_from written P again table_def by order by_columns db rs represents sorted all (place ∷ []) next (given ∷ first ∷ number (page_size + 1) ∷ []) is_far far is.second is.of_second in
      is.as_one (filter is_near rs) (filter is_far rs) one other
      ∙ ap page_of (merged_filters order total is_near is_far rs sorted ∙ (λ i. filter (λ r. after (s r) (o r) (p r) i) rs))

-- the same in another order than that of the list, where no two rows tie in it
module _ {R : Type 0} (row_from : Row → Option R) (written : R → Row) (P : R → Type 0) (again : (r : R) → P r → row_from (written r) ≡ Some r) (table_def : TableDef) (by : List ℕ) (order : R → R → Ordering) (total : IsTotalOrder order)
    (by_columns : (a b : R) → order a b ≡ stored_order by (written a) (written b))
    (db : Database) (rs : List R) (represents : HasStoredRows db table_def (map written rs)) (once : IsOnce order total rs) (all : AllByRecursion P rs)
    (place next last : ℕ) (given first second : Value) (s : R → Bool) (o p : R → Ordering)
    (near : (r : R) → is_beyond (place ∷ next ∷ []) last (given ∷ first ∷ second ∷ number (page_size + 1) ∷ []) (written r) ≡ (s r && (is_eq (o r) && is_gt (p r))))
    (far : (r : R) → is_beyond (place ∷ []) next (given ∷ first ∷ number (page_size + 1) ∷ []) (written r) ≡ (s r && is_gt (o r))) where
  pub beyond_in_order : (page : Page R) → IsPagedBeyond db table_def by row_from order place next last given first second page → page ≡ page_of (as_sorted order (filter (λ r. s r && is_gt (ordering_then (o r) (p r))) rs))
  beyond_in_order page is =
      let list = as_sorted order rs in
      let made = ordered order total rs once in
      beyond_again row_from written P again table_def by order total by_columns db list (relisted written db table_def rs list made.1 represents) made.0 (all-permutation P rs list made.1 all) place next last given first second s o p near far page is
      ∙ ap page_of (kept_in_order order total (λ r. s r && is_gt (ordering_then (o r) (p r))) rs once)

-- ---- keys and cursors as a store compares them

by_two_numbers : (a b m n : ℕ) → ordering_then (nat_cmp a b) (nat_cmp m n) ≡ ordering_then (value_cmp (number a) (number b)) (ordering_then (value_cmp (number m) (number n)) Equal)
by_two_numbers a b m n = ap₂ ordering_then (sym (number_cmp a b)) (by_number m n)

movement_order_total : IsTotalOrder movement_order
movement_order_total = then_total (on_total (λ m. m.seq) nat_cmp_total) (on_total (λ m. m.line) nat_cmp_total)

job_order_total : IsTotalOrder job_order
job_order_total = on_total (λ j. j.order.order) nat_list_cmp_total

due_order_total : IsTotalOrder due_order
due_order_total = then_total (on_total (λ j. j.order.due) nat_list_cmp_total) job_order_total

-- what ties in two values ties in the second
second_ties : (o p : Ordering) → is_eq (ordering_then o p) ≡ true → is_eq p ≡ true
second_ties Less p e = absurd (false≢true e)
second_ties Equal p e = e
second_ties Greater p e = absurd (false≢true e)

both_so : {a b c d : Bool} → a ≡ b → c ≡ d → (a && c) ≡ (b && d)
both_so e f = ap₂ (λ x y. x && y) e f

-- the columns by which a ledger is read, whatever the kind of the movement
abbrev IsNear : ℕ → Bool → List ℕ → ℕ → ℕ → Movement → Type 0
IsNear place s lot seq line m = is_beyond (place ∷ 1 ∷ []) 2 (Text lot ∷ number seq ∷ number line ∷ number (page_size + 1) ∷ []) (row_of_movement m) ≡ (s && (is_eq (nat_cmp m.seq seq) && is_gt (nat_cmp m.line line)))

abbrev IsFar : ℕ → Bool → List ℕ → ℕ → Movement → Type 0
IsFar place s lot seq m = is_beyond (place ∷ []) 1 (Text lot ∷ number seq ∷ number (page_size + 1) ∷ []) (row_of_movement m) ≡ (s && is_gt (nat_cmp m.seq seq))

-- the lot that a movement names second
abbrev is_second : List ℕ → Movement → Bool
is_second lot m = is_named lot (other_lot m.kind m.lot)

near_so : (s t : Bool) (m : Movement) (seq line : ℕ) → s ≡ t → (s && (is_eq (value_cmp (number m.seq) (number seq)) && is_gt (value_cmp (number m.line) (number line)))) ≡ (t && (is_eq (nat_cmp m.seq seq) && is_gt (nat_cmp m.line line)))
near_so s t m seq line e = both_so e (both_so (ap is_eq (number_cmp m.seq seq)) (ap is_gt (number_cmp m.line line)))

far_so : (s t : Bool) (m : Movement) (seq : ℕ) → s ≡ t → (s && is_gt (value_cmp (number m.seq) (number seq))) ≡ (t && is_gt (nat_cmp m.seq seq))
far_so s t m seq e = both_so e (ap is_gt (number_cmp m.seq seq))

module _ (lot : List ℕ) (seq line : ℕ) where
  near_first : (m : Movement) → IsNear 4 (same m.lot lot) lot seq line m
  near_first m = near_so _ _ m seq line (text_is m.lot lot)

  far_first : (m : Movement) → IsFar 4 (same m.lot lot) lot seq m
  far_first m = far_so _ _ m seq (text_is m.lot lot)

  near_second : (m : Movement) → IsNear 6 (is_second lot m) lot seq line m
  near_second m = near_so _ _ m seq line (named_is lot (other_lot m.kind m.lot))

  far_second : (m : Movement) → IsFar 6 (is_second lot m) lot seq m
  far_second m = far_so _ _ m seq (named_is lot (other_lot m.kind m.lot))

-- what names the lot first or second is in its ledger
in_ledger : (a b : Bool) → ((a && b) || (a && b)) ≡ ((a || false) && b)
in_ledger true true = refl
in_ledger true false = refl
in_ledger false b = refl

named_so : (lot : List ℕ) (cursor : Option (Cursor ℕ ℕ)) (m : Movement) → ((same m.lot lot && is_movement_after cursor m) || (is_second lot m && is_movement_after cursor m)) ≡ is_in_ledger lot cursor m
named_so lot cursor m = by m.kind
  where
    b : Bool
    b = is_movement_after cursor m

    by : (k : MovementKind) → ((same m.lot lot && b) || (is_named lot (other_lot k m.lot) && b)) ≡ ((same m.lot lot || is_named lot (lot_made k)) && b)
    by (kind.Divided to) = in_ledger (same m.lot lot) b
    by (kind.Split to) = sym (and-or_distrib_right (same m.lot lot) (same to lot) b)
    by (kind.Merged to) = sym (and-or_distrib_right (same m.lot lot) (same to lot) b)
    by _ = sym (and-or_distrib_right (same m.lot lot) false b)

-- ---- the tables of a valid state

module _ (db : Database) (s : State) (valid : StateInvariant s) (holds : HoldsTables db (tables_of newest_schema s)) where
  values : HasValidValues (tables_of newest_schema s)
  values = valid_values s valid newest_schema newest_known

  pub recipes_are : (state : RecipeState) (cursor : Option (Cursor (List ℕ) ℕ)) (page : Page Recipe)
      → IsPagedBeyond db recipe_table (first_of recipe_table.keys) recipe_from recipe_order 8 1 2 (Text (recipe_state_name state)) (Text (recipe_after cursor).first) (number (recipe_after cursor).second) page → page ≡ page_of (recipes_in s state cursor)
  recipes_are state cursor =
      let place = recipe_after cursor in
      beyond_again recipe_from row_of_recipe HasRecipeValues (λ r h. recipe_reads.again r h tt) recipe_table (first_of recipe_table.keys) recipe_order recipe_order_total (λ a b. by_text_number a.header.recipe b.header.recipe a.header.version b.header.version)
      db s.recipes (holds.each 3 recipe_table refl) (in_order newest_schema s valid).keyed.recipes values.recipes 8 1 2 (Text (recipe_state_name state)) (Text place.first) (number place.second)
      (λ r. same (recipe_state_name r.state) (recipe_state_name state)) (λ r. id_cmp r.header.recipe place.first) (λ r. nat_cmp r.header.version place.second)
      (λ r. both_so (text_is (recipe_state_name r.state) (recipe_state_name state)) (both_so (ap is_eq (value_cmp-Text r.header.recipe place.first)) (ap is_gt (number_cmp r.header.version place.second))))
      (λ r. both_so (text_is (recipe_state_name r.state) (recipe_state_name state)) (ap is_gt (value_cmp-Text r.header.recipe place.first)))

  -- no two orders tie, since their ids differ
  pub orders_by_due_are : (state : JobState) (cursor : Option (Cursor (List ℕ) (List ℕ))) (page : Page Job)
      → IsPagedBeyond db job_table (5 ∷ 1 ∷ []) job_from due_order 7 5 1 (Text (job_state_name state)) (Text (due_after cursor).first) (Text (due_after cursor).second) page → page ≡ page_of (orders_by_due s state cursor)
  orders_by_due_are state cursor =
      let place = due_after cursor in
      let rising = (in_order newest_schema s valid).keyed.jobs in
      let once = once_by_key job_order due_order job_order_total due_order_total (λ a b. second_ties (id_cmp a.order.due b.order.due) (job_order a b)) s.jobs rising in
      beyond_in_order job_from row_of_job HasJobValues (λ r h. job_reads.again r h tt) job_table (5 ∷ 1 ∷ []) due_order due_order_total (λ a b. by_two_texts a.order.due b.order.due a.order.order b.order.order)
      db s.jobs (holds.each 5 job_table refl) once values.jobs 7 5 1 (Text (job_state_name state)) (Text place.first) (Text place.second)
      (λ r. same (job_state_name r.state) (job_state_name state)) (λ r. id_cmp r.order.due place.first) (λ r. id_cmp r.order.order place.second)
      (λ r. both_so (text_is (job_state_name r.state) (job_state_name state)) (both_so (ap is_eq (value_cmp-Text r.order.due place.first)) (ap is_gt (value_cmp-Text r.order.order place.second))))
      (λ r. both_so (text_is (job_state_name r.state) (job_state_name state)) (ap is_gt (value_cmp-Text r.order.due place.first)))

  -- movements that come after a cursor, by a column that names a lot
  pub movements_beyond : (place : ℕ) (lot : List ℕ) (cursor : Option (Cursor ℕ ℕ)) (names : Movement → Bool)
      → ((m : Movement) → IsNear place (names m) lot (movement_after cursor).first (movement_after cursor).second m) → ((m : Movement) → IsFar place (names m) lot (movement_after cursor).first m) → (page : Page Movement)
      → IsPagedBeyond db movement_table (first_of movement_table.keys) movement_read movement_order place 1 2 (Text lot) (number (movement_after cursor).first) (number (movement_after cursor).second) page → page ≡ page_of (filter (λ m. names m && is_movement_after cursor m) s.movements)
  movements_beyond place lot cursor names near far =
      let start = movement_after cursor in
      beyond_again movement_read row_of_movement HasMovementRowValues movement_again movement_table (first_of movement_table.keys) movement_order movement_order_total (λ a b. by_two_numbers a.seq b.seq a.line b.line)
      db s.movements (holds.each 11 movement_table refl) (in_order newest_schema s valid).movements values.movements place 1 2 (Text lot) (number start.first) (number start.second)
      names (λ m. nat_cmp m.seq start.first) (λ m. nat_cmp m.line start.second) near far

  pub ledger_is : (lot : List ℕ) (cursor : Option (Cursor ℕ ℕ)) (page : Page Movement)
      → IsOfBoth movement_order (IsPagedBeyond db movement_table (first_of movement_table.keys) movement_read movement_order 4 1 2 (Text lot) (number (movement_after cursor).first) (number (movement_after cursor).second))
      (IsPagedBeyond db movement_table (first_of movement_table.keys) movement_read movement_order 6 1 2 (Text lot) (number (movement_after cursor).first) (number (movement_after cursor).second)) page → page ≡ page_of (ledger_of s lot cursor)
  ledger_is lot cursor page is =
      let start = movement_after cursor in
      let first = movements_beyond 4 lot cursor (λ m. same m.lot lot) (near_first lot start.first start.second) (far_first lot start.first start.second) is.first is.of_first in
      let second = movements_beyond 6 lot cursor (is_second lot) (near_second lot start.first start.second) (far_second lot start.first start.second) is.second is.of_second in
      is.as_one _ _ first second
      ∙ ap page_of (merged_filters movement_order movement_order_total (λ m. same m.lot lot && is_movement_after cursor m) (λ m. is_second lot m && is_movement_after cursor m) s.movements (in_order newest_schema s valid).movements
      ∙ (λ i. filter (λ m. named_so lot cursor m i) s.movements))
