-- What commands keep of what happened to batches.
use Rattle.std.proofs.Common.{◌≡◌, ◌∙◌, ℕ, ◌+◌, Bool, true, false, List, [], ◌∷◌, ◌++◌, Option, Some, None, Result, Ok, Err, is_some, refl, sym, ap, subst, cond, IfOk, IsOk, not, ◌&&◌, ◌==◌, is_ok, is_eq}
use Rattle.std.specs.List.{AllByRecursion}
use Rattle.std.specs.Result.{result_ok, result_unwrap_or}
use Rattle.std.specs.Cmp.Lexicographic.{texts_ties}
use Rattle.std.proofs.lemmas.Bool.{false≢true, false_from_ne_true}
use Rattle.std.proofs.lemmas.Option.{same_Some}
use Rattle.std.proofs.lemmas.Cmp.{eq_by_cmp_equiv}
use Rattle.plant_base.specs.{State, same, put, job_order, batch_order, batch_at, Batch, BatchEvent, BatchState, ControlLine, Event, Job, RecipeLine, Refusal, Stamp}
use Rattle.plant_base.specs.declared.refusal.Refusal.TheVariants.{PhasesLeft, NotNextPhase, BatchClosed, WrongState, TooMany}
use Rattle.plant_base.specs.declared.states.Event.TheVariants.{Moved, PhaseDone, Closed}
use Rattle.plant_view.proofs.ListLemmas.{found_passes, found_keeps, all_weaker, found_same, same_id, same_itself, all_two, all_of, all_put_apart, found_own}
use Rattle.plant_recipe.specs.declared.progress.Progress.{Progress}
use Rattle.plant_recipe.specs.{next_state_of, is_running, is_reset, is_phase_left, refuse_event, ends_with_phases_left, has_no_attempt_left, turn_to, turn_moved, turn_phase_done, turn, then_turn, run_of, progress_after}
use Rattle.plant_recipe.proofs.EventFold.{run_push, progress_after_push, goes_along}
use Rattle.plant_view.specs.{headers_of, orders_of, batch_among, job_among, has_finished, IsConsistentBatch, is_batch_among, IsConsistentRun, AreConsistentRuns, phases_among, events_among, progress_at}
use Rattle.plant_view.specs.DecisionInvariant.{DecisionInvariant}
use Rattle.plant_view.proofs.RowKeys.{ids_apart}
use Rattle.plant_rules_production.specs.{turn_at, event_row}
use Rattle.plant_rules_production.proofs.BatchRows.{own_event, other_event, batch_key, batch_consistent, put_batch_there}
use Rattle.plant_rules_production.proofs.OrdersPreserved.{job_tied, job_order_total, batch_order_total}
use Rattle.plant_rules_production.proofs.ReleaseRows as releasing

-- ---- jobs that change

-- the job of another order is found as before
job_past : (r : Job) (jobs : List Job) (id : List ℕ) → same r.order.order id ≡ false → job_among (put job_order r jobs) id ≡ job_among jobs id
job_past r jobs id apart = found_same job_order r (λ (j : Job). same j.order.order id) jobs apart (λ q e. sym (job_tied id r q e) ∙ apart)

-- and that of its own as it is now
pub job_own : (r : Job) (jobs : List Job) (id : List ℕ) → r.order.order ≡ id → job_among (put job_order r jobs) id ≡ Some r
job_own r jobs id key =
    let test = λ (j : Job). same j.order.order id in
    let agrees : (q : Job) → test q ≡ is_eq (job_order r q) = λ q. (λ i. same q.order.order (sym key i)) ∙ texts_ties q.order.order r.order.order ∙ (eq_by_cmp_equiv job_order_total).symm q r in
    found_own job_order job_order_total r test jobs (ap (λ i. same i id) key ∙ same_itself id) agrees

-- what happened to batches is consistent still where their orders stay as they are
pub runs_of_jobs : (jobs later : List Job) (batches : List Batch) (control : List ControlLine) (events : List BatchEvent) → AllByRecursion (λ (b : Batch). job_among later b.job ≡ job_among jobs b.job) batches → AreConsistentRuns jobs batches control events → AreConsistentRuns later batches control events
runs_of_jobs jobs later batches control events same_jobs runs = all_two _ _ _ (λ (b : Batch) stays w. record { allowed = w.allowed; finished = w.finished ∙ ap has_finished (sym stays) }) batches same_jobs runs

module _ (s : State) (sound : DecisionInvariant s) where
  abbrev DecisionInvariantIn : Batch → Type 0
  DecisionInvariantIn = IsConsistentBatch (headers_of s.recipes) s.master_lines (orders_of s.jobs) s.batches s.control_lines

  -- an order without a batch is no batch's
  pub jobs_past : (r : Job) → is_some (batch_among s.batches r.order.order) ≡ false → AllByRecursion (λ (b : Batch). job_among (put job_order r s.jobs) b.job ≡ job_among s.jobs b.job) s.batches
  jobs_past r none = all_weaker DecisionInvariantIn _ (λ (b : Batch) w. job_past r s.jobs b.job (ids_apart (λ id. is_some (batch_among s.batches id)) b.job r.order.order (ap is_some w.alone) none).1) s.batches sound.production.batches.each

  -- nothing has happened to a batch that is released
  pub runs_released : (b : Batch) (lines : List RecipeLine) (free : is_batch_among s.batches b.id ≡ false) (later : List Job) → has_finished (job_among later b.job) ≡ false → AllByRecursion (λ (q : Batch). job_among later q.job ≡ job_among s.jobs q.job) s.batches
      → AreConsistentRuns later (put batch_order b s.batches) (releasing.after s sound b free lines) s.events
  unfolding run_of progress_after
  runs_released b lines free later unfinished same_jobs =
      let control = releasing.after s sound b free lines in
      let none = releasing.no_events s sound b free lines in
      let this : IsConsistentRun later control s.events b = record {
        allowed = ap (λ es. is_ok (run_of (phases_among control b.id) es)) none;
        finished = ap (λ es. (progress_after (phases_among control b.id) es).closed) none ∙ sym unfinished;
      } in
      let stays : (q : Batch) → IsConsistentRun later s.control_lines s.events q → is_eq (batch_order b q) ≡ false → IsConsistentRun later control s.events q = λ q w apart.
      let phases = releasing.phases_stay s sound b free lines q apart in
      record {
        allowed = ap (λ n. is_ok (run_of n (events_among s.events q.id))) (sym phases) ∙ w.allowed;
        finished = ap (λ n. (progress_after n (events_among s.events q.id)).closed) (sym phases) ∙ w.finished;
      } in
      all_put_apart batch_order batch_order_total b (IsConsistentRun later control s.events) s.batches sound.production.batches.sorted this (all_weaker _ _ stays s.batches (runs_of_jobs s.jobs later s.batches s.control_lines s.events same_jobs sound.production.runs))

-- ---- turns

abbrev pub is_closing : Event → Bool
is_closing (Moved word) = false
is_closing (PhaseDone number) = false
is_closing Closed = true

unless : (P : Progress → Type 0) (test : Bool) (refusal : Refusal) (rest : Result Progress Refusal) → IfOk rest P → IfOk (refuse_event test refusal rest) P
unless P true refusal rest h = tt
unless P false refusal rest h = h

-- only the closing closes a batch
stays_open : (phases : ℕ) (p : Progress) (e : Event) → is_closing e ≡ false → IfOk (turn phases p e) (λ q. q.closed ≡ p.closed)
unfolding turn_moved turn_phase_done
stays_open phases p (Moved word) other = moves (next_state_of p.state word)
  where
    Same : Progress → Type 0
    Same q = q.closed ≡ p.closed

    moved : (b : Bool) (to : BatchState) → Same (cond b (record { state = to; attempt = p.attempt + 1; next = 1; closed = p.closed }) (record { state = to; attempt = p.attempt; next = p.next; closed = p.closed }))
    moved true to = refl
    moved false to = refl

    moves : (to : Option BatchState) → IfOk (turn_to phases p word to) Same
    moves None = tt
    moves (Some to) = unless Same (ends_with_phases_left phases p word) PhasesLeft _ (unless Same p.closed BatchClosed _ (unless Same (has_no_attempt_left p word) TooMany _ (moved (is_reset word) to)))
stays_open phases p (PhaseDone number) other =
    let Same : Progress → Type 0 = λ q. q.closed ≡ p.closed in
    unless Same (not (number == p.next && is_phase_left phases p)) NotNextPhase _ (unless Same p.closed BatchClosed _ (unless Same (not (is_running p.state)) WrongState _ refl))
stays_open phases p Closed other = absurd (false≢true (sym other))

-- a run in which nothing was refused comes to the progress
pub run_is : (phases : ℕ) (es : List Event) → IsOk (run_of phases es) → run_of phases es ≡ Ok (progress_after phases es)
run_is phases es allowed = elim (run_of phases es) as (λ r. run_of phases es ≡ r → IsOk r → r ≡ Ok (progress_after phases es)) [
  | Ok p ↦ λ e ok. ap Ok (sym (goes_along phases es p (ap result_ok e)))
  | Err refusal ↦ λ e ok. absurd (false≢true ok)
] refl allowed

-- ---- an event

module _ (s : State) (sound : DecisionInvariant s) (t : Stamp) (id : List ℕ) (e : Event) (b : Batch) (found : batch_at s id ≡ Some b) (p : Progress) (allowed : turn_at s id e ≡ Ok p) where
  abbrev after : List BatchEvent
  after = s.events ++ event_row s.seq t id e ∷ []

  was : IsConsistentRun s.jobs s.control_lines s.events b
  was = found_keeps (IsConsistentRun s.jobs s.control_lines s.events) (λ (x : Batch). same x.id id) s.batches b sound.production.runs found

  its_run : (later : List Job) → p.closed ≡ has_finished (job_among later b.job) → IsConsistentRun later s.control_lines after b
  its_run later closes =
      let key = batch_key s id b found in
      let phases = phases_among s.control_lines b.id in
      let es = events_among s.events b.id in
      let own = own_event s.events (event_row s.seq t id e) b.id (ap (same id) key ∙ same_itself id) in
      let now = progress_after phases es in
      let turned : turn phases now e ≡ Ok p = ap (λ i. turn_at s i e) key ∙ allowed in
      let run : run_of phases (es ++ e ∷ []) ≡ Ok p = run_push phases es e ∙ ap (λ r. then_turn phases r e) (run_is phases es was.allowed) ∙ turned in
      let come : progress_after phases (es ++ e ∷ []) ≡ p = progress_after_push phases es e ∙ ap (λ r. result_unwrap_or r now) turned in
      record {
        allowed = ap (λ xs. is_ok (run_of phases xs)) own ∙ ap is_ok run;
        finished = ap (λ xs. (progress_after phases xs).closed) own ∙ ap (λ (q : Progress). q.closed) come ∙ closes;
      }

  other_run : (later : List Job) (q : Batch) → job_among later q.job ≡ job_among s.jobs q.job → is_eq (batch_order b q) ≡ false → IsConsistentRun s.jobs s.control_lines s.events q → IsConsistentRun later s.control_lines after q
  other_run later q stays apart w =
      let other = other_event s.events (event_row s.seq t id e) q.id (ap (λ k. same k q.id) (sym (batch_key s id b found)) ∙ releasing.apart_batches b q apart) in
      record {
        allowed = ap (λ es. is_ok (run_of (phases_among s.control_lines q.id) es)) other ∙ w.allowed;
        finished = ap (λ es. (progress_after (phases_among s.control_lines q.id) es).closed) other ∙ w.finished ∙ ap has_finished (sym stays);
      }

  -- the order of another batch stays as it is
  abbrev Stays : List Job → Batch → Type 0
  Stays later q = is_eq (batch_order b q) ≡ false → job_among later q.job ≡ job_among s.jobs q.job

  runs_reported : (later : List Job) → p.closed ≡ has_finished (job_among later b.job) → AllByRecursion (Stays later) s.batches → AreConsistentRuns later s.batches s.control_lines after
  runs_reported later closes stays =
      let Sound : Batch → Type 0 = IsConsistentRun later s.control_lines after in
      let others = all_two (Stays later) (IsConsistentRun s.jobs s.control_lines s.events) (λ q. is_eq (batch_order b q) ≡ false → Sound q) (λ q same_job w apart. other_run later q (same_job apart) apart w) s.batches stays sound.production.runs in
      subst (AllByRecursion Sound) (put_batch_there s sound id b found) (all_put_apart batch_order batch_order_total b Sound s.batches sound.production.batches.sorted (its_run later closes) others)

  -- an event that isn't the closing leaves the orders
  pub runs_happened : is_closing e ≡ false → AreConsistentRuns s.jobs s.batches s.control_lines after
  runs_happened open_still =
      let key = batch_key s id b found in
      let same_closed : IfOk (turn_at s id e) (λ q. q.closed ≡ (progress_at s id).closed) = stays_open (phases_among s.control_lines id) (progress_at s id) e open_still in
      let kept : p.closed ≡ (progress_at s id).closed = subst (λ r. IfOk r (λ q. q.closed ≡ (progress_at s id).closed)) allowed same_closed in
      runs_reported s.jobs (kept ∙ ap (λ i. (progress_at s i).closed) (sym key) ∙ was.finished) (all_of (Stays s.jobs) (λ q apart. refl) s.batches)

  -- the closing finishes the batch's order and no other
  pub runs_closed : (j : Job) → job_among s.jobs b.job ≡ Some j → (r : Job) → r.order ≡ j.order → has_finished (Some r) ≡ true → p.closed ≡ true → AreConsistentRuns (put job_order r s.jobs) s.batches s.control_lines after
  runs_closed j known r order finished closed =
      let key : r.order.order ≡ b.job = ap (λ o. o.order) order ∙ same_id j.order.order b.job (found_passes (λ (x : Job). same x.order.order b.job) s.jobs j known) in
      let its = batch_consistent s sound id b found in
      runs_reported (put job_order r s.jobs) (closed ∙ sym (ap has_finished (job_own r s.jobs b.job key) ∙ finished))
      (all_weaker (DecisionInvariantIn s sound) (Stays (put job_order r s.jobs)) (λ q w apart. job_past r s.jobs q.job (ap (λ i. same i q.job) key ∙ jobs_apart q (sym its.alone) w.alone apart)) s.batches sound.production.batches.each)
    where
      -- two batches are of two orders
      jobs_apart : (q : Batch) → Some b ≡ batch_among s.batches b.job → batch_among s.batches q.job ≡ Some q → is_eq (batch_order b q) ≡ false → same b.job q.job ≡ false
      jobs_apart q mine other apart = false_from_ne_true (same b.job q.job) (λ same_job.
          let one : b ≡ q = same_Some b q (mine ∙ ap (batch_among s.batches) (same_id b.job q.job same_job) ∙ other) in
          false≢true (sym (releasing.apart_batches b q apart) ∙ ap (λ (x : Batch). same b.id x.id) (sym one) ∙ same_itself b.id))
