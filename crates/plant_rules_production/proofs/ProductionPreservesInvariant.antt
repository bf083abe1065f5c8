-- Commands on recipes, orders and batches keep a state consistent.
use Rattle.std.proofs.Common.{◌≡◌, ◌∙◌, ℕ, ◌+◌, true, false, List, [], ◌∷◌, ◌++◌, Option, Some, None, Result, Ok, Err, is_some, is_none, option_map, refl, sym, ap, subst, not, All}
use Rattle.std.specs.List.{AllByRecursion, list_all, list_any}
use Rattle.std.proofs.lemmas.List.Elements.{recursion_from_All}
use Rattle.std.proofs.lemmas.Bool.{false≢true}
use Rattle.plant_base.specs.{State, put, recipe_order, job_order, batch_order, recipe_at, job_at, batch_at, definition_at, is_version, has_numbers, HasHeaderValues, HasLineValues, HasOrderValues, AddRecipe, Batch, BatchEvent, CancelOrder, CloseBatch, ControlLine, Event, ImportOrders, Job, MasterLine, OrderRow, Recipe, RecipeLine, RecipeState, Refusal, Release, Stamp}
use Rattle.plant_base.specs.declared.refusal.Refusal.TheVariants.{UnknownRecipe, UnknownBatch, OrderConflict, SizeOutOfRange, BatchClosed, TooMany, NotFinished}
use Rattle.plant_base.specs.declared.states.RecipeState.TheVariants.{Draft}
use Rattle.plant_base.specs.declared.states.JobState.TheVariants.{Cancelled, Released, Finished}
use Rattle.plant_base.specs.declared.states.Event.TheVariants.{Closed}
use Rattle.plant_view.proofs.ListLemmas.{found_passes, all_weaker, all_push, same_id, each_passes, all_filtered, filtered_passes, some_mapped, all_two, each_fails, not_false}
use Rattle.plant_recipe.specs.declared.progress.Progress.{Progress}
use Rattle.plant_recipe.specs.{is_well_formed, is_ended}
use Rattle.plant_recipe.specs.Progress as progress
use Rattle.plant_view.specs.{refuse, at_limit, is_known, is_size_of_recipe, progress_at, HasValidOrder, HasBatchValues, headers_of, header_among, AreConsistentRecipes, orders_of, order_among, batch_among, is_size_of_some, AreConsistentOrders, control_of_header, control_of_order, is_batch_among, AreConsistentBatches, has_finished, AreConsistentRuns, IsConsistentGenealogy}
use Rattle.plant_rules_production.specs.{add_recipe, conflicts, wrong_import_orders, new_orders, is_waiting, import_orders, cancel_order, turn_at, refuse_turn, wrong_event, event_row, happened, wrong_close_batch, job_of, close_batch, control_of_recipe, control_of_job, lines_in, released_batch, release}
use Rattle.plant_rules_production.specs.Recipes.{with_state}
use Rattle.plant_rules_production.specs.Orders as orders
use Rattle.plant_view.specs.DecisionInvariant.{DecisionInvariant}
use Rattle.plant_view.proofs.HeadersFound.{header_found, size_of_recipe}
use Rattle.plant_view.proofs.CommandsPreserveInvariant.{passed, is_there}
use Rattle.plant_view.proofs.GenealogyAfterMovement.{descent_released}
use Rattle.plant_rules_production.proofs.RecipesPreserved.{headers_put, headers_same, with_state_sorted, recipes_moved, more, recipes_added, orders_headed, batches_headed}
use Rattle.plant_rules_production.proofs.OrdersPreserved.{order_of_job, orders_same, open_has_none, orders_moved, orders_imported, batches_imported, jobs_imported, orders_released, batches_released}
use Rattle.plant_rules_production.proofs.BatchRows.{batch_consistent, closed_at, open_turn, order_there}
use Rattle.plant_rules_production.proofs.ReleaseRows.{after}
use Rattle.plant_rules_production.proofs.RunsPreserved.{job_own, runs_of_jobs, jobs_past, runs_released, is_closing, runs_happened, runs_closed}

-- consistent recipes, orders and batches make the state consistent, where the rest stays
pub with_production : (s : State) → DecisionInvariant s → (seq at : ℕ) (recipes : List Recipe) (master_lines : List MasterLine) (jobs : List Job) (batches : List Batch) (control_lines : List ControlLine) (events : List BatchEvent)
    → AreConsistentRecipes s.definitions recipes master_lines → AreConsistentOrders (headers_of recipes) jobs batches → AreConsistentBatches (headers_of recipes) master_lines (orders_of jobs) batches control_lines events → AreConsistentRuns jobs batches control_lines events → IsConsistentGenealogy batches s.movements
    → DecisionInvariant (record s { seq = seq; at = at; recipes = recipes; master_lines = master_lines; jobs = jobs; batches = batches; control_lines = control_lines; events = events })
with_production s sound seq at recipes master_lines jobs batches control_lines events planned ordered released allowed descended = record {
  catalogue = sound.catalogue;
  recipes = planned;
  production = record { orders = ordered; batches = released; runs = allowed };
  stock = sound.stock;
  genealogy = descended;
  bars = sound.bars;
}

-- ---- recipes

pub add_recipe_preserves_invariant : (s : State) → DecisionInvariant s → (t : Stamp) (c : AddRecipe) → HasHeaderValues c.header → All HasLineValues c.lines → is_version c.header.version ≡ true → is_well_formed c.header c.lines ≡ true → is_some (definition_at s c.header.product) ≡ true → list_all (is_known s.definitions) c.lines ≡ true → is_some (recipe_at s c.header.recipe c.header.version) ≡ false → DecisionInvariant (add_recipe s t c)
add_recipe_preserves_invariant s sound t c values line_values version formed product known none =
    let r : Recipe = record { header = c.header; state = Draft } in
    let free = ap is_some (header_found s.recipes c.header.recipe c.header.version) ∙ some_mapped (λ (x : Recipe). x.header) (recipe_at s c.header.recipe c.header.version) ∙ none in
    let rows = more s.definitions s.recipes s.master_lines sound.recipes r c.lines free in
    let back = sym (headers_put s.recipes r) in
    with_production s sound (s.seq + 1) t.at (put recipe_order r s.recipes) rows s.jobs s.batches s.control_lines s.events
    (recipes_added s.definitions s.recipes s.master_lines sound.recipes r c.lines free values (recursion_from_All HasLineValues c.lines line_values) version formed product known)
    (subst (λ hs. AreConsistentOrders hs s.jobs s.batches) back (orders_headed s.definitions s.recipes s.master_lines sound.recipes r c.lines free s.jobs s.batches sound.production.orders))
    (subst (λ hs. AreConsistentBatches hs rows (orders_of s.jobs) s.batches s.control_lines s.events) back (batches_headed s.definitions s.recipes s.master_lines sound.recipes r c.lines free (orders_of s.jobs) s.batches s.control_lines s.events sound.production.batches))
    sound.production.runs
    sound.genealogy

-- a recipe whose state goes on
pub consistent_moved : (s : State) → DecisionInvariant s → (t : Stamp) (id : List ℕ) (version : ℕ) (to : RecipeState) → DecisionInvariant (record s { seq = s.seq + 1; at = t.at; recipes = with_state to (recipe_at s id version) s.recipes })
consistent_moved s sound t id version to =
    let moved = with_state to (recipe_at s id version) s.recipes in
    let kept = headers_same s.recipes sound.recipes.sorted id version (recipe_at s id version) refl to in
    with_production s sound (s.seq + 1) t.at moved s.master_lines s.jobs s.batches s.control_lines s.events
    (recipes_moved s.definitions s.recipes moved s.master_lines kept (with_state_sorted s.recipes sound.recipes.sorted (recipe_at s id version) to) sound.recipes)
    (subst (λ hs. AreConsistentOrders hs s.jobs s.batches) (sym kept) sound.production.orders)
    (subst (λ hs. AreConsistentBatches hs s.master_lines (orders_of s.jobs) s.batches s.control_lines s.events) (sym kept) sound.production.batches)
    sound.production.runs
    sound.genealogy

-- ---- orders

none_some : {X : Type 0} (o : Option X) → is_none o ≡ true → is_some o ≡ false
none_some None e = refl
none_some (Some x) e = absurd (false≢true e)

-- the sizes of the orders of an import that isn't refused are their recipes'
pub import_sized : (s : State) (c : ImportOrders) → wrong_import_orders s c ≡ None → list_any (λ (o : OrderRow). not (is_size_of_recipe (recipe_at s o.recipe o.version) o.size)) c.orders ≡ false
import_sized s c fine =
    let sizes = refuse (list_any (λ (o : OrderRow). not (is_size_of_recipe (recipe_at s o.recipe o.version) o.size)) c.orders) SizeOutOfRange (refuse (at_limit s) TooMany None) in
    let conflict = list_any (λ (o : OrderRow). conflicts c.orders (job_at s o.order) o) c.orders in
    let planned = passed (list_any (λ (o : OrderRow). is_none (recipe_at s o.recipe o.version)) c.orders) UnknownRecipe (refuse conflict OrderConflict sizes) fine in
    (passed (list_any (λ (o : OrderRow). not (is_size_of_recipe (recipe_at s o.recipe o.version) o.size)) c.orders) SizeOutOfRange (refuse (at_limit s) TooMany None) (passed conflict OrderConflict sizes planned.1).1).0

pub import_preserves_invariant : (s : State) → DecisionInvariant s → (t : Stamp) (c : ImportOrders) → All HasOrderValues c.orders → list_all has_numbers c.orders ≡ true → list_any (λ (o : OrderRow). not (is_size_of_recipe (recipe_at s o.recipe o.version) o.size)) c.orders ≡ false → DecisionInvariant (import_orders s t c)
import_preserves_invariant s sound t c values numbers sizes =
    let new = new_orders s c.orders in
    let headers = headers_of s.recipes in
    let is_new = λ (o : OrderRow). is_none (job_at s o.order) in
    let fresh : AllByRecursion (λ (o : OrderRow). is_some (order_among (orders_of s.jobs) o.order) ≡ false) new =
    all_weaker _ _ (λ (o : OrderRow) none. ap is_some (order_of_job s.jobs o.order) ∙ some_mapped (λ (j : Job). j.order) (job_at s o.order) ∙ none_some (job_at s o.order) none) new (filtered_passes is_new c.orders) in
    let sized : AllByRecursion (λ (o : OrderRow). is_size_of_some (header_among headers o.recipe o.version) o.size ≡ true) new =
    all_filtered _ is_new c.orders (all_weaker _ _ (λ (o : OrderRow) fits. ap (λ h. is_size_of_some h o.size) (header_found s.recipes o.recipe o.version) ∙ size_of_recipe (recipe_at s o.recipe o.version) o.size ∙ not_false _ fits) c.orders
    (each_fails (λ (o : OrderRow). not (is_size_of_recipe (recipe_at s o.recipe o.version) o.size)) c.orders sizes)) in
    let valid : AllByRecursion HasValidOrder new =
    all_filtered HasValidOrder is_new c.orders (all_two HasOrderValues (λ (o : OrderRow). has_numbers o ≡ true) HasValidOrder (λ o v n. (v, n)) c.orders (recursion_from_All HasOrderValues c.orders values) (each_passes has_numbers c.orders numbers)) in
    with_production s sound (s.seq + 1) t.at s.recipes s.master_lines (import_orders s t c).jobs s.batches s.control_lines s.events sound.recipes
    (orders_imported headers s.master_lines s.jobs s.batches s.control_lines s.events sound.production.orders sound.production.batches new fresh sized valid)
    (batches_imported headers s.master_lines s.jobs s.batches s.control_lines s.events sound.production.orders sound.production.batches new fresh)
    (runs_of_jobs s.jobs (import_orders s t c).jobs s.batches s.control_lines s.events (jobs_imported headers s.master_lines s.jobs s.batches s.control_lines s.events sound.production.orders sound.production.batches new fresh) sound.production.runs)
    sound.genealogy

module _ (s : State) (sound : DecisionInvariant s) (id : List ℕ) where
  cancelled : (o : Option Job) → job_at s id ≡ o → is_waiting o ≡ true → AreConsistentOrders (headers_of s.recipes) (orders.with_state Cancelled o s.jobs) s.batches × AreConsistentRuns (orders.with_state Cancelled o s.jobs) s.batches s.control_lines s.events
  cancelled None e waits = absurd (false≢true waits)
  cancelled (Some j) e waits =
      let r : Job = record { order = j.order; state = Cancelled } in
      let none = open_has_none (headers_of s.recipes) s.jobs s.batches sound.production.orders id j e waits in (
        orders_moved (headers_of s.recipes) s.jobs s.batches sound.production.orders id j e Cancelled none,
        runs_of_jobs s.jobs (put job_order r s.jobs) s.batches s.control_lines s.events (jobs_past s sound r none) sound.production.runs,
      )

pub cancel_preserves_invariant : (s : State) → DecisionInvariant s → (t : Stamp) (c : CancelOrder) → is_waiting (job_at s c.order) ≡ true → DecisionInvariant (cancel_order s t c)
cancel_preserves_invariant s sound t c waits =
    let kept = orders_same s.jobs sound.production.orders.sorted c.order (job_at s c.order) refl Cancelled in
    let moved = cancelled s sound c.order (job_at s c.order) refl waits in
    with_production s sound (s.seq + 1) t.at s.recipes s.master_lines (cancel_order s t c).jobs s.batches s.control_lines s.events sound.recipes moved.0
    (subst (λ os. AreConsistentBatches (headers_of s.recipes) s.master_lines os s.batches s.control_lines s.events) (sym kept) sound.production.batches)
    moved.1
    sound.genealogy

-- ---- a release

control_in : (s : State) (o : OrderRow) (r : Option Recipe) → control_of_header s.master_lines o (option_map (λ (x : Recipe). x.header) r) ≡ control_of_recipe s o r
control_in s o None = refl
control_in s o (Some r) = refl

control_same : (s : State) (o : Option Job) → control_of_order (headers_of s.recipes) s.master_lines (option_map (λ (j : Job). j.order) o) ≡ control_of_job s o
control_same s None = refl
control_same s (Some j) = ap (control_of_header s.master_lines j.order) (header_found s.recipes j.order.recipe j.order.version) ∙ control_in s j.order (recipe_at s j.order.recipe j.order.version)

some_lines : (control : Option (List RecipeLine)) → is_none control ≡ false → control ≡ Some (lines_in control)
some_lines None e = absurd (false≢true (sym e))
some_lines (Some lines) e = refl

module _ (s : State) (sound : DecisionInvariant s) (b : Batch) (lines : List RecipeLine) (free : is_some (batch_at s b.id) ≡ false) where
  waiting : (o : Option Job) → job_at s b.job ≡ o → is_waiting o ≡ true → is_some (batch_among s.batches b.job) ≡ false
  waiting None e waits = absurd (false≢true waits)
  waiting (Some j) e waits =
      let key = same_id j.order.order b.job (found_passes _ s.jobs j e) in
      ap (λ i. is_some (batch_among s.batches i)) (sym key) ∙ open_has_none (headers_of s.recipes) s.jobs s.batches sound.production.orders b.job j e waits

  released : (o : Option Job) → job_at s b.job ≡ o → is_waiting o ≡ true → is_some (batch_among s.batches b.job) ≡ false → AreConsistentOrders (headers_of s.recipes) (orders.with_state Released o s.jobs) (put batch_order b s.batches)
  released None e waits unstarted = absurd (false≢true waits)
  released (Some j) e waits unstarted = orders_released (headers_of s.recipes) s.master_lines (orders_of s.jobs) s.batches s.control_lines s.events sound.production.batches b lines free unstarted s.jobs sound.production.orders j e

  -- the order is released, and no other changes
  allowed : (o : Option Job) → job_at s b.job ≡ o → is_waiting o ≡ true → is_some (batch_among s.batches b.job) ≡ false → AreConsistentRuns (orders.with_state Released o s.jobs) (put batch_order b s.batches) (after s sound b free lines) s.events
  allowed None e waits unstarted = absurd (false≢true waits)
  allowed (Some j) e waits unstarted =
      let r : Job = record { order = j.order; state = Released } in
      let key = same_id j.order.order b.job (found_passes _ s.jobs j e) in
      runs_released s sound b lines free (put job_order r s.jobs) (ap has_finished (job_own r s.jobs b.job key)) (jobs_past s sound r (ap (λ id. is_some (batch_among s.batches id)) key ∙ unstarted))

pub release_preserves_invariant : (s : State) → DecisionInvariant s → (t : Stamp) (c : Release) → HasBatchValues (released_batch t c) → is_some (batch_at s c.batch) ≡ false → is_waiting (job_at s c.order) ≡ true → is_none (control_of_job s (job_at s c.order)) ≡ false → DecisionInvariant (release s t c)
release_preserves_invariant s sound t c values free waits some =
    let b = released_batch t c in
    let headers = headers_of s.recipes in
    let lines = lines_in (control_of_job s (job_at s c.order)) in
    let next = release s t c in
    let unstarted = waiting s sound b lines free (job_at s c.order) refl waits in
    let scaled = ap (control_of_order headers s.master_lines) (order_of_job s.jobs c.order) ∙ control_same s (job_at s c.order) ∙ some_lines (control_of_job s (job_at s c.order)) some in
    let kept = orders_same s.jobs sound.production.orders.sorted c.order (job_at s c.order) refl Released in
    with_production s sound (s.seq + 1) t.at s.recipes s.master_lines next.jobs next.batches next.control_lines s.events sound.recipes
    (released s sound b lines free (job_at s c.order) refl waits unstarted)
    (subst (λ os. AreConsistentBatches headers s.master_lines os next.batches next.control_lines s.events) (sym kept) (batches_released headers s.master_lines (orders_of s.jobs) s.batches s.control_lines s.events sound.production.batches b lines free unstarted values scaled))
    (allowed s sound b lines free (job_at s c.order) refl waits unstarted)
    (descent_released s.batches s.movements b sound.genealogy)

-- ---- what happens to a batch

some_there : {X : Type 0} (o : Option X) → is_some o ≡ true → (x : X) × (o ≡ Some x)
some_there None e = absurd (false≢true e)
some_there (Some x) e = (x, refl)

turn_allowed : (r : Result Progress Refusal) (rest : Option Refusal) → refuse_turn r rest ≡ None → (p : Progress) × (r ≡ Ok p)
turn_allowed (Ok p) rest e = (p, refl)
turn_allowed (Err refusal) rest e = absurd cc

-- every event is of a batch that is there
reported_batches : (s : State) → DecisionInvariant s → (t : Stamp) (id : List ℕ) (e : Event) (b : Batch) → batch_at s id ≡ Some b → AreConsistentBatches (headers_of s.recipes) s.master_lines (orders_of s.jobs) s.batches s.control_lines (s.events ++ event_row s.seq t id e ∷ [])
reported_batches s sound t id e b found = record {
  sorted = sound.production.batches.sorted;
  control_sorted = sound.production.batches.control_sorted;
  each = sound.production.batches.each;
  controlled = sound.production.batches.controlled;
  witnessed = all_push (λ (x : BatchEvent). is_batch_among s.batches x.batch ≡ true) s.events (event_row s.seq t id e) sound.production.batches.witnessed (ap is_some found);
}

pub consistent_event : (s : State) → DecisionInvariant s → (t : Stamp) (id : List ℕ) (e : Event) → is_closing e ≡ false → wrong_event s id e ≡ None → DecisionInvariant (happened s t id e)
consistent_event s sound t id e open_still fine =
    let there = passed (is_none (batch_at s id)) UnknownBatch (refuse_turn (turn_at s id e) (refuse (at_limit s) TooMany None)) fine in
    let batch = some_there (batch_at s id) (is_there _ there.0) in
    let turn = turn_allowed (turn_at s id e) (refuse (at_limit s) TooMany None) there.1 in
    with_production s sound (s.seq + 1) t.at s.recipes s.master_lines s.jobs s.batches s.control_lines (happened s t id e).events sound.recipes sound.production.orders
    (reported_batches s sound t id e batch.0 batch.1)
    (runs_happened s sound t id e batch.0 batch.1 turn.0 turn.1 open_still)
    sound.genealogy

-- ---- a closing

module _ (s : State) (sound : DecisionInvariant s) (t : Stamp) (c : CloseBatch) (b : Batch) (found : batch_at s c.batch ≡ Some b) (unclosed : (progress_at s c.batch).closed ≡ false) (ended : is_ended (progress_at s c.batch).state ≡ true) where
  finished : (j : Job) → job_at s b.job ≡ Some j → DecisionInvariant (record (happened s t c.batch Closed) { jobs = put job_order (record { order = j.order; state = Finished }) s.jobs })
  finished j known =
      let r : Job = record { order = j.order; state = Finished } in
      let headers = headers_of s.recipes in
      let now = progress_at s c.batch in
      let turn = open_turn now unclosed ∙ ap (λ x. progress.refuse_event (not x) NotFinished (Ok (closed_at now))) ended in
      let key = same_id j.order.order b.job (found_passes _ s.jobs j known) in
      let kept = orders_same s.jobs sound.production.orders.sorted b.job (Some j) known Finished in
      with_production s sound (s.seq + 1) t.at s.recipes s.master_lines (put job_order r s.jobs) s.batches s.control_lines (happened s t c.batch Closed).events sound.recipes
      (orders_moved headers s.jobs s.batches sound.production.orders b.job j known Finished (ap (λ id. is_some (batch_among s.batches id)) key ∙ ap is_some (batch_consistent s sound c.batch b found).alone))
      (subst (λ os. AreConsistentBatches headers s.master_lines os s.batches s.control_lines (happened s t c.batch Closed).events) (sym kept) (reported_batches s sound t c.batch Closed b found))
      (runs_closed s sound t c.batch Closed b found (closed_at now) turn j known r refl refl refl)
      sound.genealogy

pub close_preserves_invariant : (s : State) → DecisionInvariant s → (t : Stamp) (c : CloseBatch) → wrong_close_batch s c ≡ None → DecisionInvariant (close_batch s t c)
close_preserves_invariant s sound t c fine =
    let there = passed (is_none (batch_at s c.batch)) UnknownBatch _ fine in
    let unclosed = passed (progress_at s c.batch).closed BatchClosed _ there.1 in
    let room = passed (at_limit s) TooMany _ unclosed.1 in
    let ended = passed (not (is_ended (progress_at s c.batch).state)) NotFinished None room.1 in
    let batch = some_there (batch_at s c.batch) (is_there _ there.0) in
    let job = some_there (job_at s batch.0.job) (order_there s sound c.batch batch.0 batch.1) in
    subst (λ o. DecisionInvariant (record (happened s t c.batch Closed) { jobs = orders.with_state Finished o s.jobs })) (sym (ap (job_of s) batch.1 ∙ job.1))
    (finished s sound t c batch.0 batch.1 unclosed.0 (not_false _ ended.0) job.0 job.1)
