-- The rule on orders: their sizes are sizes of their recipes, and they have batches where they were released, closed where they are finished.
use Rattle.std.proofs.Common.{◌≡◌, ◌∙◌, ℕ, true, List, map, Option, Some, None, is_none, is_some, option_map, refl, sym, ap, IfSome, not, Decides}
use Rattle.std.specs.List.{AllByRecursion}
use Rattle.std.specs.List.Sorted.{IsStrictlySortedBy}
use Rattle.std.proofs.lemmas.Bool.{false≢true}
use Rattle.plant_base.specs.{same, job_order, Batch, BatchRow, Job, JobState, OrderRow, Recipe}
use Rattle.plant_base.specs.declared.states.JobState.TheVariants.{Open, Cancelled, Released, Finished}
use Rattle.plant_view.proofs.ListLemmas.{found_passes, found_keeps, same_id, same_itself, all_weaker, all_two, all_mapped, all_unmapped, find_mapped, some_mapped, not_true}
use Rattle.plant_view.specs.{headers_of, header_among, orders_of, batch_among, job_among, is_size_of_some, has_batch, is_finished, has_finished, HasValidOrder, AreConsistentOrders, batch_of_row}
use Rattle.plant_view.proofs.HeadersFound.{header_found, size_of_recipe}
use Rattle.plant_requirements.specs.{recipe_among, row_of_order, is_started, of_order, order_fault, order_fault_in}
use Rattle.plant_requirements.proofs.NoFault.{met_exact, no_more, rows_exact as each_row}
use Rattle.plant_check_laws.proofs.ExactTests.{passing, both, in_words, by_test}
use Rattle.plant_check_laws.proofs.DistinctKeys.{one_found, apart_sorted, ids_apart}

-- the batch that is found is that of the row
pub batch_found : (batches : List BatchRow) (order : List ℕ) → batch_among (map batch_of_row batches) order ≡ option_map batch_of_row (row_of_order batches order)
batch_found batches order = find_mapped (λ (b : Batch). same b.job order) batch_of_row batches

started_exact : (state : JobState) (o : Option BatchRow) → Decides (is_started state o) ((is_some o ≡ has_batch state) × IfSome o (λ b. b.closed ≡ is_finished state))
started_exact Open None = ((λ e. (refl, tt)), (λ f. refl))
started_exact Open (Some b) = ((λ e. absurd (false≢true e)), (λ f. absurd (false≢true (sym f.0))))
started_exact Cancelled None = ((λ e. (refl, tt)), (λ f. refl))
started_exact Cancelled (Some b) = ((λ e. absurd (false≢true e)), (λ f. absurd (false≢true (sym f.0))))
started_exact Released None = ((λ e. absurd (false≢true e)), (λ f. absurd (false≢true f.0)))
started_exact Released (Some b) = ((λ e. (refl, not_true b.closed e)), (λ f. ap not f.1))
started_exact Finished None = ((λ e. absurd (false≢true e)), (λ f. absurd (false≢true f.0)))
started_exact Finished (Some b) = ((λ e. (refl, e)), (λ f. f.1))

-- what the rule says of an order
pub record IsRightJob (recipes : List Recipe) (batches : List BatchRow) (j : Job) : Type 0 where
  pub sized : is_size_of_some (header_among (headers_of recipes) j.order.recipe j.order.version) j.order.size ≡ true
  pub started : is_some (batch_among (map batch_of_row batches) j.order.order) ≡ has_batch j.state
  pub closed : IfSome (row_of_order batches j.order.order) (λ b. b.closed ≡ is_finished j.state)

-- a batch is closed where its order is finished
abbrev pub Closes : List Job → BatchRow → Type 0
Closes jobs b = b.closed ≡ has_finished (job_among jobs b.batch.job)

module _ (recipes : List Recipe) (batches : List BatchRow) (jobs : List Job) where
  order_exact : (j : Job) → Decides (is_none (order_fault recipes batches j)) (IsRightJob recipes batches j)
  order_exact j =
      let recipe = recipe_among recipes j.order.recipe j.order.version in
      let batch = row_of_order batches j.order.order in
      let header = ap (λ o. is_size_of_some o j.order.size) (header_found recipes j.order.recipe j.order.version) in
      let found = ap is_some (batch_found batches j.order.order) ∙ some_mapped batch_of_row batch in
      in_words (met_exact (of_order recipe batch j) (both (by_test (sym (header ∙ size_of_recipe recipe j.order.size)) (passing _)) (both (started_exact j.state batch) no_more)))
      (λ p. record { sized = p.0; started = found ∙ p.1.0.0; closed = p.1.0.1 })
      (λ w. (w.sized, ((sym found ∙ w.started, w.closed), tt)))

  -- no order has a fault
  abbrev AreFaultless : Type 0
  AreFaultless = is_none (order_fault_in recipes batches jobs) ≡ true

  pub orders_exact : Decides (is_none (order_fault_in recipes batches jobs)) (AllByRecursion (IsRightJob recipes batches) jobs)
  orders_exact = each_row (order_fault recipes batches) (IsRightJob recipes batches) order_exact jobs

  abbrev IsSized : OrderRow → Type 0
  IsSized o = is_size_of_some (header_among (headers_of recipes) o.recipe o.version) o.size ≡ true

  pub sized_orders : AreFaultless → AllByRecursion IsSized (orders_of jobs)
  sized_orders tests = all_mapped IsSized (λ j. j.order) jobs (all_weaker (IsRightJob recipes batches) (λ j. IsSized j.order) (λ j w. w.sized) jobs (orders_exact.0 tests))

  pub consistent_orders : AreFaultless → IsStrictlySortedBy job_order jobs → AllByRecursion (λ (j : Job). HasValidOrder j.order) jobs → AreConsistentOrders (headers_of recipes) jobs (map batch_of_row batches)
  consistent_orders tests sorted values = record {
    sorted = sorted;
    values = all_mapped HasValidOrder (λ j. j.order) jobs values;
    sized = sized_orders tests;
    started = all_weaker (IsRightJob recipes batches) _ (λ j w. w.started) jobs (orders_exact.0 tests);
  }

  closed_as : AllByRecursion (Closes jobs) batches → (j : Job) → job_among jobs j.order.order ≡ Some j → (o : Option BatchRow) → row_of_order batches j.order.order ≡ o → IfSome o (λ b. b.closed ≡ is_finished j.state)
  closed_as closes j own None found = tt
  closed_as closes j own (Some b) found =
      let of_order = λ (x : BatchRow). same x.batch.job j.order.order in
      let key : b.batch.job ≡ j.order.order = same_id b.batch.job j.order.order (found_passes of_order batches b found) in
      found_keeps (Closes jobs) of_order batches b closes found ∙ ap (λ id. has_finished (job_among jobs id)) key ∙ ap has_finished own

  -- consistent orders whose batches are closed where they are finished keep to the rule
  pub right_orders : AreConsistentOrders (headers_of recipes) jobs (map batch_of_row batches) → AllByRecursion (Closes jobs) batches → AreFaultless
  right_orders c closes =
      let has_id_of = λ (k j : Job). same j.order.order k.order.order in
      let found = one_found has_id_of (λ j. same_itself j.order.order) jobs
      (apart_sorted has_id_of job_order (λ k j less. let apart = ids_apart k.order.order j.order.order less in (apart.1, apart.0)) jobs c.sorted) in
      let closed = all_weaker (λ (j : Job). job_among jobs j.order.order ≡ Some j) (λ j. IfSome (row_of_order batches j.order.order) (λ b. b.closed ≡ is_finished j.state)) (λ j own. closed_as closes j own _ refl) jobs found in
      let sized = all_unmapped IsSized (λ (j : Job). j.order) jobs c.sized in
      let begun : AllByRecursion (λ j. (is_some (batch_among (map batch_of_row batches) j.order.order) ≡ has_batch j.state) × IfSome (row_of_order batches j.order.order) (λ b. b.closed ≡ is_finished j.state)) jobs =
      all_two _ _ _ (λ (j : Job) started closed. (started, closed)) jobs c.started closed in
      orders_exact.1 (all_two _ _ (IsRightJob recipes batches) (λ (j : Job) sized begun. record { sized = sized; started = begun.0; closed = begun.1 }) jobs sized begun)
