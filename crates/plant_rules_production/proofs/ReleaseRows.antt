-- What is decided of a release in a consistent state, and its rows.
use Rattle.std.proofs.Common.{◌≡◌, ◌∙◌, ℕ, ◌+◌, ◌≤◌, ◌<◌, Bool, true, false, cond, List, [], ◌∷◌, length, map, filter, Option, Some, None, is_some, is_none, option_map, refl, sym, ap, arith, ◌&&◌, ◌==◌, not, is_eq, le-leb}
use Rattle.std.specs.Cmp.Lexicographic.{texts_ties}
use Rattle.std.proofs.lemmas.Bool.Decides.{nat_tests}
use Rattle.plant_base.specs.{greatest_seq, State, newest_schema, same, put, batch_order, control_line_order, recipe_at, master_lines_of, job_at, batch_at, Batch, BatchEvent, ControlLine, Header, Job, MasterLine, OrderRow, Recipe, RecipeLine, Release, Stamp}
use Rattle.plant_base.specs.declared.refusal.Refusal.TheVariants.{Exists, UnknownOrder, NotApproved, OrderNotOpen, ScaledToNothing, TooMany}
use Rattle.plant_base.specs.declared.states.RecipeState.TheVariants.{Approved}
use Rattle.plant_base.specs.declared.states.JobState.TheVariants.{Released}
use Rattle.plant_view.proofs.ListLemmas.{put_map, all_weaker, found_passes, found_keeps, same_key, id_total, all_of, none_left, find_mapped, filter_past_all, all_numbered}
use Rattle.plant_recipe.specs.{is_phase, is_well_formed, is_size_of, control_of, opening_progress, progress_after}
use Rattle.plant_view.specs.declared.change.RowChange.TheVariants as row
use Rattle.plant_view.specs.{refuse, at_limit, control_line, numbered, put_all, headers_of, header_among, orders_of, order_among, is_size_of_some, IsConsistentRecipe, is_batch_among, tables_of, changed, changed_all, row_at, batch_row, batch_row_order, phases_among, events_among}
use Rattle.plant_rules_production.specs.{is_state, is_in, is_open, is_waiting, recipe_of, control_of_recipe, control_of_job, lines_in, wrong_release, released_batch, release, release_rows}
use Rattle.plant_rules_production.specs.Orders.{with_state}
use Rattle.plant_view.specs.DecisionInvariant.{DecisionInvariant}
use Rattle.plant_view.specs.TableRows.{Tables}
use Rattle.plant_view.proofs.HeadersFound.{header_found}
use Rattle.plant_view.proofs.RowKeys.{control_line_order_total, control_batch_tied, ids_apart}

-- ---- what a consistent state has of an order that is there

pub order_found : (s : State) (id : List ℕ) (job : Job) → job_at s id ≡ Some job → order_among (orders_of s.jobs) id ≡ Some job.order
order_found s id job e = find_mapped (λ (o : OrderRow). same o.order id) (λ (j : Job). j.order) s.jobs ∙ ap (option_map (λ (j : Job). j.order)) e

-- ---- rows

control_changed : {L : Type 0} (f : ℕ → L → ControlLine) (k : ℕ) (ls : List L) (t : Tables) → changed_all (numbered (λ n l. row.ControlLine (f n l)) k ls) t ≡ record t { control_lines = put_all control_line_order (numbered f k ls) t.control_lines }
control_changed f k [] t = refl
control_changed f k (l ∷ ls) t = control_changed f (k + 1) ls (changed (row.ControlLine (f k l)) t)

pub filter_both : {X : Type 0} (p q : X → Bool) (xs : List X) → filter (λ x. p x && q x) xs ≡ filter q (filter p xs)
filter_both p q [] = refl
filter_both p q (x ∷ xs) = elim (p x) as (λ b. cond (b && q x) (x ∷ filter (λ y. p y && q y) xs) (filter (λ y. p y && q y) xs) ≡ filter q (cond b (x ∷ filter p xs) (filter p xs))) [
  | true ↦ ap (λ ys. cond (q x) (x ∷ ys) ys) (filter_both p q xs)
  | false ↦ filter_both p q xs
]

-- ids of two batches that are apart
pub apart_batches : (p q : Batch) → is_eq (batch_order p q) ≡ false → same p.id q.id ≡ false
apart_batches p q e = texts_ties p.id q.id ∙ e

module _ (s : State) (sound : DecisionInvariant s) (b : Batch) (free : is_batch_among s.batches b.id ≡ false) (lines : List RecipeLine) where
  abbrev pub after : List ControlLine
  after = put_all control_line_order (numbered (control_line b.id) 1 lines) s.control_lines

  -- another batch keeps its phases
  pub phases_stay : (q : Batch) → is_eq (batch_order b q) ≡ false → phases_among s.control_lines q.id ≡ phases_among after q.id
  phases_stay q apart =
      let own = λ (l : ControlLine). same l.batch q.id in
      let phase = λ (l : ControlLine). is_phase l.line in
      let past : filter own after ≡ filter own s.control_lines = filter_past_all control_line_order control_line_order_total own (control_batch_tied q.id) (numbered (control_line b.id) 1 lines) s.control_lines (all_numbered (control_line b.id) (λ l. own l ≡ false) (λ k l. apart_batches b q apart) 1 lines) in
      ap length (filter_both own phase s.control_lines) ∙ ap (λ ls. length (filter phase ls)) (sym past) ∙ sym (ap length (filter_both own phase after))

  -- a batch that isn't there has no events
  pub no_events : events_among s.events b.id ≡ []
  no_events = ap (map (λ (e : BatchEvent). e.event)) (none_left (λ (e : BatchEvent). same e.batch b.id) s.events (all_weaker _ _ (λ (e : BatchEvent) known. (ids_apart (is_batch_among s.batches) e.batch b.id known free).0) s.events sound.production.batches.witnessed))

  begins : row_at b opening_progress ≡ batch_row after s.events b
  unfolding progress_after
  begins = ap (λ es. row_at b (progress_after (phases_among after b.id) es)) (sym no_events)

  -- the column with the row of the new batch
  pub batches_released : put batch_row_order (row_at b opening_progress) (map (batch_row s.control_lines s.events) s.batches) ≡ map (batch_row after s.events) (put batch_order b s.batches)
  batches_released =
      ap (λ r. put batch_row_order r (map (batch_row s.control_lines s.events) s.batches)) begins
      ∙ put_map batch_order batch_row_order (id_total (λ (x : Batch). x.id)) (batch_row s.control_lines s.events) (batch_row after s.events) b (λ q. refl) s.batches sound.production.batches.sorted
      (all_of _ (λ q apart. ap (λ n. row_at q (progress_after n (events_among s.events q.id))) (phases_stay q apart)) s.batches)

pub release_tables : (s : State) → DecisionInvariant s → (t : Stamp) (c : Release) (job : Job) (lines : List RecipeLine) → job_at s c.order ≡ Some job → is_some (batch_at s c.batch) ≡ false → control_of_job s (job_at s c.order) ≡ Some lines
    → changed_all (release_rows s.seq t c job.order lines) (tables_of newest_schema s) ≡ tables_of newest_schema (release s t c)
release_tables s sound t c job lines known free control =
    let b = released_batch t c in
    let base = tables_of newest_schema (release s t c) in
    control_changed (control_line c.batch) 1 lines _
    ∙ (λ i. record base {
      jobs = with_state Released (sym known i) s.jobs;
      batches = batches_released s sound b free lines i;
      control_lines = put_all control_line_order (numbered (control_line c.batch) 1 lines) s.control_lines;
    })
    ∙ (λ i. record base {
      batches = map (batch_row (put_all control_line_order (numbered (control_line c.batch) 1 (lines_in (sym control i))) s.control_lines) s.events) (put batch_order b s.batches);
      control_lines = put_all control_line_order (numbered (control_line c.batch) 1 (lines_in (sym control i))) s.control_lines;
    })

-- ---- what is decided from what was found

module _ (s : State) (c : Release) (job : Job) (r : Recipe) (rows : List MasterLine) (known : job_at s c.order ≡ Some job) (found : recipe_at s job.order.recipe job.order.version ≡ Some r) (listed : rows ≡ master_lines_of s job.order.recipe job.order.version) where
  abbrev pub its_control : Option (List RecipeLine)
  its_control = control_of r.header (map (λ l. l.line) rows) job.order.size

  -- the recipe is well formed, and the size is one of the recipe's
  pub order_ready : DecisionInvariant s → (is_well_formed r.header (map (λ l. l.line) rows) ≡ true) × (is_size_of r.header job.order.size ≡ true)
  order_ready sound =
      let o = job.order in
      let headers = headers_of s.recipes in
      let test = λ (h : Header). same h.recipe o.recipe && h.version == o.version in
      let header = header_found s.recipes o.recipe o.version ∙ ap (option_map (λ (x : Recipe). x.header)) found in
      let keys = same_key r.header.recipe o.recipe r.header.version o.version (found_passes test headers r.header header) in
      let whole = found_keeps (IsConsistentRecipe s.definitions s.master_lines) test headers r.header sound.recipes.whole header in
      let sized = found_keeps (λ (x : OrderRow). is_size_of_some (header_among headers x.recipe x.version) x.size ≡ true) (λ (x : OrderRow). same x.order c.order) (orders_of s.jobs) o sound.production.orders.sized (order_found s c.order job known) in (
        ap (λ ls. is_well_formed r.header (map (λ (l : MasterLine). l.line) ls)) (listed ∙ (λ i. master_lines_of s (sym keys.0 i) (sym keys.1 i))) ∙ whole.formed,
        ap (λ h. is_size_of_some h o.size) (sym header) ∙ sized,
      )

  -- the control recipe of the order is that of what was found
  control_is : control_of_job s (job_at s c.order) ≡ its_control
  control_is = ap (control_of_job s) known ∙ ap (control_of_recipe s job.order) found ∙ ap (λ ls. control_of r.header (map (λ (l : MasterLine). l.line) ls) job.order.size) (sym listed)

  module _ (free : is_some (batch_at s c.batch) ≡ false) (approved : is_state Approved r.state ≡ true) (waits : is_open job.state ≡ true) where
    -- only the control recipe and the limit decide
    checked : wrong_release s c ≡ refuse (is_none its_control) ScaledToNothing (refuse (at_limit s) TooMany None)
    checked =
        let there : is_none (job_at s c.order) ≡ false = ap is_none known in
        let in_state : is_in Approved (recipe_of s (job_at s c.order)) ≡ true = ap (λ j. is_in Approved (recipe_of s j)) known ∙ ap (is_in Approved) found ∙ approved in
        let waiting : is_waiting (job_at s c.order) ≡ true = ap is_waiting known ∙ waits in
        λ i. refuse (there i) UnknownOrder (refuse (free i) Exists (refuse (not (in_state i)) NotApproved (refuse (not (waiting i)) OrderNotOpen (refuse (is_none (control_is i)) ScaledToNothing (refuse (at_limit s) TooMany None)))))

    pub release_nothing : its_control ≡ None → wrong_release s c ≡ Some ScaledToNothing
    release_nothing nothing = checked ∙ ap (λ o. refuse (is_none o) ScaledToNothing (refuse (at_limit s) TooMany None)) nothing

    pub release_limit : (lines : List RecipeLine) → its_control ≡ Some lines → greatest_seq ≤ s.seq → wrong_release s c ≡ Some TooMany
    release_limit lines some full = checked ∙ ap (λ o. refuse (is_none o) ScaledToNothing (refuse (at_limit s) TooMany None)) some ∙ ap (λ b. refuse b TooMany None) (le-leb greatest_seq s.seq full)

    pub release_fine : (lines : List RecipeLine) → its_control ≡ Some lines → s.seq < greatest_seq → wrong_release s c ≡ None
    release_fine lines some room = checked ∙ ap (λ o. refuse (is_none o) ScaledToNothing (refuse (at_limit s) TooMany None)) some ∙ ap (λ b. refuse b TooMany None) below
      where
        below : at_limit s ≡ false
        below = grind (arith, nat_tests)

    -- and the rows make the tables of the next state
    pub release_leads : DecisionInvariant s → (t : Stamp) (lines : List RecipeLine) → its_control ≡ Some lines → changed_all (release_rows s.seq t c job.order lines) (tables_of newest_schema s) ≡ tables_of newest_schema (release s t c)
    release_leads sound t lines some = release_tables s sound t c job lines known free (control_is ∙ some)
