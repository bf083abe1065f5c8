-- What commands keep of consistent orders and batches.
use Rattle.std.proofs.Common.{◌≡◌, ◌∙◌, ℕ, Bool, true, false, List, map, find, Option, Some, None, is_some, option_map, refl, sym, ap, subst, is_eq, Equal}
use Rattle.std.specs.List.{AllByRecursion}
use Rattle.std.specs.List.Sorted.{IsStrictlySortedBy}
use Rattle.std.specs.Cmp.{IsTotalOrder}
use Rattle.std.specs.Cmp.Lexicographic.{texts_ties}
use Rattle.std.proofs.lemmas.Cmp.{eq_by_cmp_equiv}
use Rattle.std.proofs.lemmas.Bool.{false≢true}
use Rattle.plant_base.specs.{same, put, job_order, batch_order, control_line_order, Batch, BatchEvent, ControlLine, Header, Job, JobState, MasterLine, OrderRow, RecipeLine}
use Rattle.plant_base.specs.declared.states.JobState.TheVariants.{Open, Cancelled, Released, Finished}
use Rattle.plant_view.proofs.ListLemmas.{found_passes, found_keeps, all_weaker, all_put, sorted_put, found_put, found_new, put_there, put_kept, same_id, same_itself, id_total, id_tie, id_still, all_mapped, all_unmapped, none_passes, none_left, sorted_mapped, find_mapped, all_put_apart, found_past, found_past_all, all_put_all, sorted_put_all, filter_past_all, filter_new_all, all_numbered, map_numbered, sorted_numbered, all_two}
use Rattle.plant_rules_production.specs.{is_open, opened}
use Rattle.plant_rules_production.specs.Orders.{with_state}
use Rattle.plant_view.specs.{control_line, numbered, put_all, header_among, orders_of, order_among, batch_among, job_among, is_size_of_some, has_batch, HasValidOrder, AreConsistentOrders, control_among, control_of_order, HasBatchValues, IsConsistentBatch, is_batch_among, AreConsistentBatches}
use Rattle.plant_view.proofs.RowKeys.{order_row_order, control_line_order_total, control_batch_tied, ids_apart, control_rises}

-- ---- keys of jobs

pub job_order_total : IsTotalOrder job_order
job_order_total = id_total (λ (j : Job). j.order.order)

pub batch_order_total : IsTotalOrder batch_order
batch_order_total = id_total (λ (b : Batch). b.id)

pub job_tied : (id : List ℕ) (a b : Job) → job_order a b ≡ Equal → same a.order.order id ≡ same b.order.order id
job_tied id a b e = ap (λ i. same i id) (id_tie (λ (j : Job). j.order.order) a b e)

-- the order of a job that is found
pub order_of_job : (jobs : List Job) (id : List ℕ) → order_among (orders_of jobs) id ≡ option_map (λ j. j.order) (find (λ j. same j.order.order id) jobs)
order_of_job jobs id = find_mapped (λ (o : OrderRow). same o.order id) (λ (j : Job). j.order) jobs

-- ---- jobs whose states go on

pub orders_same : (jobs : List Job) → IsStrictlySortedBy job_order jobs → (id : List ℕ) (o : Option Job) → find (λ (j : Job). same j.order.order id) jobs ≡ o → (to : JobState) → orders_of (with_state to o jobs) ≡ orders_of jobs
orders_same jobs sorted id None e to = refl
orders_same jobs sorted id (Some j) e to =
    let key : j.order.order ≡ id = same_id j.order.order id (found_passes _ jobs j e) in
    let test = λ (o : OrderRow). same o.order id in
    let orders = λ (x : Job). x.order in
    put_kept orders job_order order_row_order (λ a b. refl) (record { order = j.order; state = to }) jobs
    ∙ put_there order_row_order (id_total (λ (o : OrderRow). o.order)) j.order test
    (λ q. (λ i. same q.order (sym key i)) ∙ texts_ties q.order j.order.order ∙ (eq_by_cmp_equiv (id_total (λ (o : OrderRow). o.order))).symm q j.order)
    (orders_of jobs) (sorted_mapped order_row_order orders jobs sorted) (order_of_job jobs id ∙ ap (option_map orders) e)

open_is_free : (st : JobState) → is_open st ≡ true → has_batch st ≡ false
open_is_free Open e = refl
open_is_free Cancelled e = refl
open_is_free Released e = absurd (false≢true e)
open_is_free Finished e = absurd (false≢true e)

module _ (headers : List Header) (jobs : List Job) (batches : List Batch) (sound : AreConsistentOrders headers jobs batches) where
  -- an open order has no batch
  pub open_has_none : (id : List ℕ) (j : Job) → find (λ (x : Job). same x.order.order id) jobs ≡ Some j → is_open j.state ≡ true → is_some (batch_among batches j.order.order) ≡ false
  open_has_none id j found waits = found_keeps (λ (x : Job). is_some (batch_among batches x.order.order) ≡ has_batch x.state) _ jobs j sound.started found ∙ open_is_free j.state waits

  -- an order goes on to a state that has a batch where it has one
  pub orders_moved : (id : List ℕ) (j : Job) → find (λ (x : Job). same x.order.order id) jobs ≡ Some j → (to : JobState) → is_some (batch_among batches j.order.order) ≡ has_batch to → AreConsistentOrders headers (put job_order (record { order = j.order; state = to }) jobs) batches
  orders_moved id j found to represents =
      let r : Job = record { order = j.order; state = to } in
      record {
        sorted = sorted_put job_order job_order_total r jobs sound.sorted;
        values = subst (AllByRecursion HasValidOrder) (sym (orders_same jobs sound.sorted id (Some j) found to)) sound.values;
        sized = subst (AllByRecursion (λ (o : OrderRow). is_size_of_some (header_among headers o.recipe o.version) o.size ≡ true)) (sym (orders_same jobs sound.sorted id (Some j) found to)) sound.sized;
        started = all_put job_order (λ (x : Job). is_some (batch_among batches x.order.order) ≡ has_batch x.state) r jobs represents sound.started;
      }

-- ---- new orders

-- an order that has a control recipe is there
pub some_order : (headers : List Header) (rows : List MasterLine) (o : Option OrderRow) (lines : List RecipeLine) → control_of_order headers rows o ≡ Some lines → is_some o ≡ true
some_order headers rows None lines e = absurd cc
some_order headers rows (Some o) lines e = refl

module _ (headers : List Header) (rows : List MasterLine) (jobs : List Job) (batches : List Batch) (control : List ControlLine) (events : List BatchEvent) (sound : AreConsistentOrders headers jobs batches) (own : AreConsistentBatches headers rows (orders_of jobs) batches control events) where
  abbrev is_there : List ℕ → Bool
  is_there id = is_some (order_among (orders_of jobs) id)

  -- an order that isn't there has no batch
  no_batch : (id : List ℕ) → is_there id ≡ false → is_some (batch_among batches id) ≡ false
  no_batch id none = elim (batch_among batches id) as (λ o. batch_among batches id ≡ o → is_some o ≡ false) [
    | None ↦ λ e. refl
    | Some b ↦ λ e.
        let key : b.job ≡ id = same_id b.job id (found_passes _ batches b e) in
        let w = found_keeps (IsConsistentBatch headers rows (orders_of jobs) batches control) _ batches b own.each e in
        absurd (false≢true (sym none ∙ ap is_there (sym key) ∙ some_order headers rows (order_among (orders_of jobs) b.job) _ w.scaled))
  ] refl

  module _ (new : List OrderRow) (fresh : AllByRecursion (λ (o : OrderRow). is_there o.order ≡ false) new) where
    abbrev imported : List Job
    imported = put_all job_order (map opened new) jobs

    -- the jobs that are there are found as before, and so are their orders
    job_stays : (id : List ℕ) → is_there id ≡ true → job_among imported id ≡ job_among jobs id
    job_stays id known =
        let test = λ (j : Job). same j.order.order id in
        let others = all_mapped (λ (j : Job). test j ≡ false) opened new (all_weaker _ _ (λ (o : OrderRow) none. (ids_apart is_there id o.order known none).1) new fresh) in
        found_past_all job_order job_order_total test (job_tied id) (map opened new) jobs others

    order_stays : (id : List ℕ) → is_there id ≡ true → order_among (orders_of imported) id ≡ order_among (orders_of jobs) id
    order_stays id known = order_of_job imported id ∙ ap (option_map (λ (j : Job). j.order)) (job_stays id known) ∙ sym (order_of_job jobs id)

    -- those of the batches are
    pub jobs_imported : AllByRecursion (λ (b : Batch). job_among imported b.job ≡ job_among jobs b.job) batches
    jobs_imported = all_weaker _ _ (λ (b : Batch) w. job_stays b.job (some_order headers rows (order_among (orders_of jobs) b.job) _ w.scaled)) batches own.each

    pub orders_imported : AllByRecursion (λ (o : OrderRow). is_size_of_some (header_among headers o.recipe o.version) o.size ≡ true) new → AllByRecursion HasValidOrder new → AreConsistentOrders headers imported batches
    orders_imported sized values =
        let Fits : OrderRow → Type 0 = λ o. is_size_of_some (header_among headers o.recipe o.version) o.size ≡ true in
        let Stands : Job → Type 0 = λ j. is_some (batch_among batches j.order.order) ≡ has_batch j.state in
        record {
          sorted = sorted_put_all job_order job_order_total (map opened new) jobs sound.sorted;
          values = all_mapped HasValidOrder (λ (j : Job). j.order) imported (all_put_all job_order job_order_total (λ (j : Job). HasValidOrder j.order) (map opened new) jobs (all_mapped (λ (j : Job). HasValidOrder j.order) opened new values) (all_unmapped HasValidOrder (λ (j : Job). j.order) jobs sound.values));
          sized = all_mapped Fits (λ (j : Job). j.order) imported (all_put_all job_order job_order_total (λ (j : Job). Fits j.order) (map opened new) jobs (all_mapped (λ (j : Job). Fits j.order) opened new sized) (all_unmapped Fits (λ (j : Job). j.order) jobs sound.sized));
          started = all_put_all job_order job_order_total Stands (map opened new) jobs (all_mapped Stands opened new (all_weaker _ _ (λ (o : OrderRow) none. no_batch o.order none) new fresh)) sound.started;
        }

    pub batches_imported : AreConsistentBatches headers rows (orders_of imported) batches control events
    batches_imported = record {
      sorted = own.sorted;
      control_sorted = own.control_sorted;
      each = all_weaker _ _ (λ (b : Batch) w. record {
        values = w.values;
        alone = w.alone;
        scaled = ap (control_of_order headers rows) (order_stays b.job (some_order headers rows (order_among (orders_of jobs) b.job) _ w.scaled)) ∙ w.scaled;
        numbered = w.numbered;
      }) batches own.each;
      controlled = own.controlled;
      witnessed = own.witnessed;
    }

-- ---- a new batch

module _ (headers : List Header) (rows : List MasterLine) (orders : List OrderRow) (batches : List Batch) (control : List ControlLine) (events : List BatchEvent) (own : AreConsistentBatches headers rows orders batches control events)
    (b : Batch) (lines : List RecipeLine) (free : is_batch_among batches b.id ≡ false) (waits : is_some (batch_among batches b.job) ≡ false) where
  abbrev with_batch : List Batch
  with_batch = put batch_order b batches

  abbrev with_lines : List ControlLine
  with_lines = put_all control_line_order (numbered (control_line b.id) 1 lines) control

  -- no batch has its id
  others : AllByRecursion (λ (q : Batch). same q.id b.id ≡ false) batches
  others = none_passes (λ (q : Batch). same q.id b.id) batches free

  -- the batch of another order is found as before
  batch_stays : (job : List ℕ) → same b.job job ≡ false → batch_among with_batch job ≡ batch_among batches job
  batch_stays job apart =
      let none_ties : (q : Batch) → same q.id b.id ≡ false → batch_order b q ≡ Equal → same q.job job ≡ false = λ q other e. absurd (false≢true (sym other ∙ ap (λ i. same i b.id) (sym (id_tie (λ (x : Batch). x.id) b q e)) ∙ same_itself b.id)) in
      found_past batch_order batch_order_total b (λ (q : Batch). same q.job job) batches apart (all_weaker _ _ none_ties batches others)

  pub orders_released : (jobs : List Job) → AreConsistentOrders headers jobs batches → (j : Job) → find (λ (x : Job). same x.order.order b.job) jobs ≡ Some j → AreConsistentOrders headers (put job_order (record { order = j.order; state = Released }) jobs) with_batch
  orders_released jobs sound j found =
      let r : Job = record { order = j.order; state = Released } in
      let key : j.order.order ≡ b.job = same_id j.order.order b.job (found_passes _ jobs j found) in
      let Stands : Job → Type 0 = λ x. is_some (batch_among with_batch x.order.order) ≡ has_batch x.state in
      let represents : (x : Job) → is_some (batch_among batches x.order.order) ≡ has_batch x.state → is_eq (job_order r x) ≡ false → Stands x = λ x started apart. ap is_some (batch_stays x.order.order (ap (λ i. same i x.order.order) (sym key) ∙ texts_ties j.order.order x.order.order ∙ apart)) ∙ started in
      let this : Stands r = ap (λ i. is_some (batch_among with_batch i)) key ∙ found_put batch_order b (λ (q : Batch). same q.job b.job) batches (same_itself b.job) in
      record {
        sorted = sorted_put job_order job_order_total r jobs sound.sorted;
        values = subst (AllByRecursion HasValidOrder) (sym (orders_same jobs sound.sorted b.job (Some j) found Released)) sound.values;
        sized = subst (AllByRecursion (λ (o : OrderRow). is_size_of_some (header_among headers o.recipe o.version) o.size ≡ true)) (sym (orders_same jobs sound.sorted b.job (Some j) found Released)) sound.sized;
        started = all_put_apart job_order job_order_total r Stands jobs sound.sorted this
            (all_weaker _ _ represents jobs sound.started);
      }

  -- the lines of the new batch, and those of the others
  its_control : control_among with_lines b.id ≡ numbered (control_line b.id) 1 lines
  its_control =
      let test = λ (l : ControlLine). same l.batch b.id in
      filter_new_all control_line_order control_line_order_total test (control_batch_tied b.id) (numbered (control_line b.id) 1 lines) control own.control_sorted
      (sorted_numbered (control_line b.id) control_line_order (control_rises b.id) 1 lines)
      (all_numbered (control_line b.id) (λ (l : ControlLine). test l ≡ true) (λ k l. same_itself b.id) 1 lines)
      (none_left test control (all_weaker _ _ (λ (l : ControlLine) known. (ids_apart (is_batch_among batches) l.batch b.id known free).0) control own.controlled))

  other_control : (q : Batch) → same q.id b.id ≡ false → control_among with_lines q.id ≡ control_among control q.id
  other_control q apart =
      let turned : same b.id q.id ≡ false = texts_ties b.id q.id ∙ (eq_by_cmp_equiv batch_order_total).symm b q ∙ sym (texts_ties q.id b.id) ∙ apart in
      filter_past_all control_line_order control_line_order_total (λ (l : ControlLine). same l.batch q.id) (control_batch_tied q.id) (numbered (control_line b.id) 1 lines) control (all_numbered (control_line b.id) (λ (l : ControlLine). same l.batch q.id ≡ false) (λ k l. turned) 1 lines)

  pub batches_released : HasBatchValues b → control_of_order headers rows (order_among orders b.job) ≡ Some lines → AreConsistentBatches headers rows orders with_batch with_lines events
  batches_released values scaled =
      let line = λ (l : ControlLine). l.line in
      let Sound : Batch → Type 0 = IsConsistentBatch headers rows orders with_batch with_lines in
      let its_lines : map line (control_among with_lines b.id) ≡ lines = ap (map line) its_control ∙ map_numbered (control_line b.id) line (λ k l. refl) 1 lines in
      let this : Sound b = record {
        values = values;
        alone = found_new batch_order b (λ (q : Batch). same q.job b.job) batches (same_itself b.job) waits;
        scaled = scaled ∙ ap Some (sym its_lines);
        numbered = its_control ∙ ap (numbered (control_line b.id) 1) (sym its_lines);
      } in
      let IsThere : List ℕ → Type 0 = λ id. is_batch_among with_batch id ≡ true in
      record {
        sorted = sorted_put batch_order batch_order_total b batches own.sorted;
        control_sorted = sorted_put_all control_line_order control_line_order_total (numbered (control_line b.id) 1 lines) control own.control_sorted;
        each = all_put batch_order Sound b batches this (all_two _ _ _ (λ (q : Batch) w other.
            let same_lines = other_control q other in
            record {
              values = w.values;
              alone = batch_stays q.job (ids_apart (λ id. is_some (batch_among batches id)) q.job b.job (ap is_some w.alone) waits).1 ∙ w.alone;
              scaled = w.scaled ∙ ap (λ ls. Some (map line ls)) (sym same_lines);
              numbered = same_lines ∙ w.numbered ∙ ap (λ ls. numbered (control_line q.id) 1 (map line ls)) (sym same_lines);
            }) batches own.each others);
        controlled = all_put_all control_line_order control_line_order_total (λ (l : ControlLine). IsThere l.batch) (numbered (control_line b.id) 1 lines) control
            (all_numbered (control_line b.id) (λ (l : ControlLine). IsThere l.batch) (λ k l. found_put batch_order b (λ (q : Batch). same q.id b.id) batches (same_itself b.id)) 1 lines)
            (all_weaker _ _ (λ (l : ControlLine) known. id_still (λ (x : Batch). x.id) b batches l.batch known) control own.controlled);
        witnessed = all_weaker _ _ (λ (e : BatchEvent) known. id_still (λ (x : Batch). x.id) b batches e.batch known) events own.witnessed;
      }
