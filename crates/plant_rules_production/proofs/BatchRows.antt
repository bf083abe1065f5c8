-- What is decided of an event of a batch in a consistent state, and its rows.
use Rattle.std.proofs.Common.{◌≡◌, ◌∙◌, ℕ, ◌+◌, ◌≤◌, ◌<◌, true, false, cond, List, [], ◌∷◌, ◌++◌, length, map, filter, Option, Some, None, Ok, Err, is_some, is_none, option_map, min, refl, sym, ap, arith, not, count_by, is_eq, le-leb, append-nil}
use Rattle.std.specs.Cmp.Lexicographic.{texts_ties}
use Rattle.std.specs.Result.{result_unwrap_or}
use Rattle.std.proofs.lemmas.Option.{same_Some}
use Rattle.std.proofs.lemmas.Bool.Decides.{nat_tests}
use Rattle.std.proofs.lemmas.Cmp.{eq_by_cmp_equiv}
use Rattle.std.proofs.lemmas.List.{map-append}
use Rattle.std.proofs.lemmas.List.Elements.{filter-append}
use Rattle.std.proofs.lemmas.List.Sums.{length-filter}
use Rattle.plant_base.specs.{greatest_seq, State, newest_schema, same, put, batch_order, job_at, batch_at, control_lines_of, Batch, BatchEvent, BatchRow, CloseBatch, ControlLine, Event, Job, Refusal, Stamp}
use Rattle.plant_base.specs.declared.refusal.Refusal.TheVariants.{UnknownBatch, BatchClosed, TooMany, NotFinished}
use Rattle.plant_base.specs.declared.states.JobState.TheVariants.{Finished}
use Rattle.plant_base.specs.declared.states.Event.TheVariants.{Closed}
use Rattle.plant_view.proofs.ListLemmas.{put_map, put_there, found_passes, found_keeps, same_id, same_itself, id_total, all_of, some_mapped}
use Rattle.plant_recipe.specs.declared.progress.Progress.{Progress}
use Rattle.plant_recipe.specs.{is_phase, greatest_phases, is_ended, turn, turn_closed, progress_after}
use Rattle.plant_recipe.specs.Progress as progress
use Rattle.plant_recipe.proofs.EventFold.{progress_after_push, turn_capped}
use Rattle.plant_view.specs.declared.change.RowChange.TheVariants as row
use Rattle.plant_view.specs.{refuse, at_limit, tables_of, changed_all, row_at, batch_row, batch_row_order, phases_among, events_among, headers_of, orders_of, order_among, IsConsistentBatch, progress_at}
use Rattle.plant_view.specs.DecisionInvariant.{DecisionInvariant}
use Rattle.plant_rules_production.specs.Orders.{with_state}
use Rattle.plant_rules_production.specs.{turn_at, progress_in, refuse_turn, wrong_event, event_row, happened, wrong_close_batch, job_of, close_batch}
use Rattle.plant_rules_production.proofs.OrdersPreserved.{order_of_job, some_order}
use Rattle.plant_rules_production.proofs.ReleaseRows.{filter_both, apart_batches}

-- ---- the events of a batch, with one more of any batch

pub own_event : (es : List BatchEvent) (e : BatchEvent) (batch : List ℕ) → same e.batch batch ≡ true → events_among (es ++ e ∷ []) batch ≡ events_among es batch ++ e.event ∷ []
own_event es e batch own =
    let test = λ (x : BatchEvent). same x.batch batch in
    let event = λ (x : BatchEvent). x.event in
    ap (map event) (filter-append test es (e ∷ []) ∙ ap (λ b. filter test es ++ cond b (e ∷ []) []) own) ∙ map-append event (filter test es) (e ∷ [])

pub other_event : (es : List BatchEvent) (e : BatchEvent) (batch : List ℕ) → same e.batch batch ≡ false → events_among (es ++ e ∷ []) batch ≡ events_among es batch
other_event es e batch other =
    let test = λ (x : BatchEvent). same x.batch batch in
    ap (map (λ (x : BatchEvent). x.event)) (filter-append test es (e ∷ []) ∙ ap (λ b. filter test es ++ cond b (e ∷ []) []) other ∙ append-nil (filter test es))

-- ---- rows

-- a batch that is found has its id
pub batch_key : (s : State) (id : List ℕ) (b : Batch) → batch_at s id ≡ Some b → b.id ≡ id
batch_key s id b found = same_id b.id id (found_passes (λ (x : Batch). same x.id id) s.batches b found)

-- and is consistent
pub batch_consistent : (s : State) → DecisionInvariant s → (id : List ℕ) (b : Batch) → batch_at s id ≡ Some b → IsConsistentBatch (headers_of s.recipes) s.master_lines (orders_of s.jobs) s.batches s.control_lines b
batch_consistent s sound id b found = found_keeps (IsConsistentBatch (headers_of s.recipes) s.master_lines (orders_of s.jobs) s.batches s.control_lines) (λ (x : Batch). same x.id id) s.batches b sound.production.batches.each found

-- a batch that is there already replaces itself
pub put_batch_there : (s : State) → DecisionInvariant s → (id : List ℕ) (b : Batch) → batch_at s id ≡ Some b → put batch_order b s.batches ≡ s.batches
put_batch_there s sound id b found =
    let key = batch_key s id b found in
    let total = id_total (λ (x : Batch). x.id) in
    put_there batch_order total b (λ (q : Batch). same q.id id) (λ q. (λ i. same q.id (sym key i)) ∙ texts_ties q.id b.id ∙ (eq_by_cmp_equiv total).symm q b) s.batches sound.production.batches.sorted found

module _ (s : State) (sound : DecisionInvariant s) (t : Stamp) (id : List ℕ) (e : Event) (b : Batch) (found : batch_at s id ≡ Some b) (p : Progress) (allowed : turn_at s id e ≡ Ok p) where
  abbrev after : List BatchEvent
  after = s.events ++ event_row s.seq t id e ∷ []

  -- the row of the batch has the progress after the turn
  its_row : batch_row s.control_lines after b ≡ row_at b p
  its_row =
      let phases = phases_among s.control_lines id in
      (λ i. record (batch_row s.control_lines after (record b { id = batch_key s id b found i })) { batch = b })
      ∙ ap (λ es. row_at b (progress_after phases es)) (own_event s.events (event_row s.seq t id e) id (same_itself id))
      ∙ ap (row_at b) (progress_after_push phases (events_among s.events id) e ∙ ap (λ r. result_unwrap_or r (progress_at s id)) allowed)

  -- and the others stay
  other_row : (q : Batch) → is_eq (batch_order b q) ≡ false → batch_row s.control_lines s.events q ≡ batch_row s.control_lines after q
  other_row q apart =
      let other = ap (λ k. same k q.id) (sym (batch_key s id b found)) ∙ apart_batches b q apart in
      ap (λ es. row_at q (progress_after (phases_among s.control_lines q.id) es)) (sym (other_event s.events (event_row s.seq t id e) q.id other))

  batches_reported : put batch_row_order (row_at b p) (map (batch_row s.control_lines s.events) s.batches) ≡ map (batch_row s.control_lines after) s.batches
  batches_reported =
      ap (λ r. put batch_row_order r (map (batch_row s.control_lines s.events) s.batches)) (sym its_row)
      ∙ put_map batch_order batch_row_order (id_total (λ (x : Batch). x.id)) (batch_row s.control_lines s.events) (batch_row s.control_lines after) b (λ q. refl) s.batches sound.production.batches.sorted (all_of _ other_row s.batches)
      ∙ ap (map (batch_row s.control_lines after)) (put_batch_there s sound id b found)

  pub event_tables : changed_all (row.Meta (record { schema = newest_schema; position = record { seq = s.seq + 1; at = t.at } }) ∷ row.Event (event_row s.seq t id e) ∷ row.Batch (row_at b p) ∷ []) (tables_of newest_schema s) ≡ tables_of newest_schema (happened s t id e)
  event_tables = λ i. record (tables_of newest_schema (happened s t id e)) { batches = batches_reported i }

pub close_tables : (s : State) → DecisionInvariant s → (t : Stamp) (c : CloseBatch) (b : Batch) (job : Job) (p : Progress) → batch_at s c.batch ≡ Some b → job_at s b.job ≡ Some job → turn_at s c.batch Closed ≡ Ok p
    → changed_all (row.Meta (record { schema = newest_schema; position = record { seq = s.seq + 1; at = t.at } }) ∷ row.Event (event_row s.seq t c.batch Closed) ∷ row.Batch (row_at b p) ∷ row.Job (record { order = job.order; state = Finished }) ∷ []) (tables_of newest_schema s) ≡ tables_of newest_schema (close_batch s t c)
close_tables s sound t c b job p found known allowed =
    let its_job : job_of s (batch_at s c.batch) ≡ Some job = ap (job_of s) found ∙ known in
    λ i. record (tables_of newest_schema (close_batch s t c)) {
      batches = batches_reported s sound t c.batch Closed b found p allowed i;
      jobs = with_state Finished (sym its_job i) s.jobs;
    }

-- ---- what is decided from what was found

-- what a row that was found is of
pub found_row : {X Y : Type 0} (f : X → Y) (o : Option X) (y : Y) → Some y ≡ option_map f o → (x : X) × (o ≡ Some x) × (y ≡ f x)
found_row f None y e = absurd cc
found_row f (Some x) y e = (x, refl, same_Some y (f x) e)

pub nothing_found : {X Y : Type 0} (f : X → Y) (o : Option X) → None ≡ option_map f o → is_none o ≡ true
nothing_found f None e = refl
nothing_found f (Some x) e = absurd cc

module _ (s : State) (id : List ℕ) (r : BatchRow) (b : Batch) (found : batch_at s id ≡ Some b) (is : r ≡ batch_row s.control_lines s.events b) where
  pub progress_found : progress_in r ≡ progress_at s id
  progress_found = ap progress_in is ∙ ap (progress_at s) (batch_key s id b found)

  module _ (e : Event) where
    -- the turn that is made of the row and of the lines that were found
    pub turn_found : (lines : List ControlLine) → lines ≡ control_lines_of s id → turn (min (count_by (λ l. is_phase l.line) lines) greatest_phases) (progress_in r) e ≡ turn_at s id e
    turn_found lines listed =
        let phase = λ (l : ControlLine). is_phase l.line in
        let phases : count_by phase lines ≡ phases_among s.control_lines id = ap (count_by phase) listed ∙ sym (length-filter phase (control_lines_of s id)) ∙ sym (ap length (filter_both (λ (l : ControlLine). same l.batch id) phase s.control_lines)) in
        turn_capped (count_by phase lines) (progress_in r) e ∙ (λ i. turn (phases i) (progress_found i) e)

    -- only the turn and the limit decide
    checked : wrong_event s id e ≡ refuse_turn (turn_at s id e) (refuse (at_limit s) TooMany None)
    checked = ap (λ o. refuse (is_none o) UnknownBatch (refuse_turn (turn_at s id e) (refuse (at_limit s) TooMany None))) found

    pub event_refused : (refusal : Refusal) → turn_at s id e ≡ Err refusal → wrong_event s id e ≡ Some refusal
    event_refused refusal refused = checked ∙ ap (λ t. refuse_turn t (refuse (at_limit s) TooMany None)) refused

    pub event_limit : (p : Progress) → turn_at s id e ≡ Ok p → greatest_seq ≤ s.seq → wrong_event s id e ≡ Some TooMany
    event_limit p allowed full = checked ∙ ap (λ t. refuse_turn t (refuse (at_limit s) TooMany None)) allowed ∙ ap (λ b. refuse b TooMany None) (le-leb greatest_seq s.seq full)

    pub event_fine : (p : Progress) → turn_at s id e ≡ Ok p → s.seq < greatest_seq → wrong_event s id e ≡ None
    event_fine p allowed room = checked ∙ ap (λ t. refuse_turn t (refuse (at_limit s) TooMany None)) allowed ∙ ap (λ b. refuse b TooMany None) below
      where
        below : at_limit s ≡ false
        below = grind (arith, nat_tests)

-- ---- the closing

-- the progress with the batch closed
abbrev pub closed_at : Progress → Progress
closed_at p = record { state = p.state; attempt = p.attempt; next = p.next; closed = true }

-- an open batch is closed where it is ended
pub open_turn : (p : Progress) → p.closed ≡ false → turn_closed p ≡ progress.refuse_event (not (is_ended p.state)) NotFinished (Ok (closed_at p))
unfolding turn_closed
open_turn p unclosed = ap (λ b. progress.refuse_event b BatchClosed (progress.refuse_event (not (is_ended p.state)) NotFinished (Ok (closed_at p)))) unclosed

ending : (p : Progress) → p.closed ≡ false → refuse (not (is_ended p.state)) NotFinished None ≡ refuse_turn (turn_closed p) None
ending p unclosed =
    elim (not (is_ended p.state)) as (λ b. refuse b NotFinished None ≡ refuse_turn (progress.refuse_event b NotFinished (Ok (closed_at p))) None) [ true ↦ refl | false ↦ refl ]
    ∙ ap (λ r. refuse_turn r None) (sym (open_turn p unclosed))

-- a batch has its order
pub order_there : (s : State) → DecisionInvariant s → (id : List ℕ) (b : Batch) → batch_at s id ≡ Some b → is_some (job_at s b.job) ≡ true
order_there s sound id b found =
    sym (ap is_some (order_of_job s.jobs b.job) ∙ some_mapped (λ (j : Job). j.order) (job_at s b.job)) ∙ some_order (headers_of s.recipes) s.master_lines (order_among (orders_of s.jobs) b.job) _ (batch_consistent s sound id b found).scaled

module _ (s : State) (c : CloseBatch) (r : BatchRow) (b : Batch) (found : batch_at s c.batch ≡ Some b) (is : r ≡ batch_row s.control_lines s.events b) where
  tested : wrong_close_batch s c ≡ refuse r.closed BatchClosed (refuse (at_limit s) TooMany (refuse (not (is_ended r.state)) NotFinished None))
  tested =
      let reported : progress_at s c.batch ≡ progress_in r = sym (progress_found s c.batch r b found is) in
      λ i. refuse (is_none (found i)) UnknownBatch (refuse (reported i).closed BatchClosed (refuse (at_limit s) TooMany (refuse (not (is_ended (reported i).state)) NotFinished None)))

  pub closed_already : r.closed ≡ true → wrong_close_batch s c ≡ Some BatchClosed
  closed_already closed = tested ∙ ap (λ b. refuse b BatchClosed (refuse (at_limit s) TooMany (refuse (not (is_ended r.state)) NotFinished None))) closed

  module _ (unclosed : r.closed ≡ false) where
    pub close_limit : greatest_seq ≤ s.seq → wrong_close_batch s c ≡ Some TooMany
    close_limit full = tested ∙ ap (λ b. refuse b BatchClosed (refuse (at_limit s) TooMany (refuse (not (is_ended r.state)) NotFinished None))) unclosed ∙ ap (λ b. refuse b TooMany (refuse (not (is_ended r.state)) NotFinished None)) (le-leb greatest_seq s.seq full)

    -- the turn decides
    pub close_decided : s.seq < greatest_seq → wrong_close_batch s c ≡ refuse_turn (turn_closed (progress_in r)) None
    close_decided room = tested ∙ ap (λ b. refuse b BatchClosed (refuse (at_limit s) TooMany (refuse (not (is_ended r.state)) NotFinished None))) unclosed ∙ ap (λ b. refuse b TooMany (refuse (not (is_ended r.state)) NotFinished None)) below ∙ ending (progress_in r) unclosed
      where
        below : at_limit s ≡ false
        below = grind (arith, nat_tests)
