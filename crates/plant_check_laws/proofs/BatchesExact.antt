-- The rule on batches: each is the only one of its order, and its numbered lines are the control recipe that the order asks for.
use Rattle.std.proofs.Common.{◌≡◌, ◌∙◌, ℕ, ◌≤◌, Bool, true, false, List, [], ◌∷◌, map, filter, length, Option, Some, None, is_none, option_map, refl, sym, ap, subst, ◌&&◌, ◌==◌, cond, IfSome, Decides, Less}
use Rattle.std.specs.List.{AllByRecursion}
use Rattle.std.specs.List.Sorted.{IsStrictlySortedBy}
use Rattle.std.proofs.lemmas.Bool.{false≢true}
use Rattle.std.proofs.lemmas.Cmp.{lists_equiv, nat_list_eq_equiv}
use Rattle.std.proofs.lemmas.List.{length-map}
use Rattle.plant_base.specs.{same, batch_order, control_line_order, Batch, BatchEvent, BatchRow, ControlLine, Header, Job, MasterLine, OrderRow, Recipe, RecipeLine}
use Rattle.plant_base.specs.contracts.rows.RecipeLineEq.TheImpl.Laws.{laws-law}
use Rattle.plant_view.proofs.ListLemmas.{found_passes, found_keeps, same_id, same_key, same_itself, all_weaker, all_two, all_mapped, all_unmapped, filtered_passes, find_mapped}
use Rattle.plant_recipe.specs.{is_well_formed, is_size_of, control_of}
use Rattle.plant_view.specs.{headers_of, header_among, lines_among, orders_of, order_among, batch_among, control_line, control_among, control_of_header, control_of_order, is_batch_among, is_size_of_some, HasBatchValues, IsConsistentBatch, AreConsistentBatches, IsConsistentRun, AreConsistentRuns, job_among, has_finished, numbered, batch_of_row}
use Rattle.plant_view.proofs.HeadersFound.{header_found}
use Rattle.plant_requirements.specs.{control_sized, control_of_found, control_asked_for, is_control, is_row_among, of_batch, batch_fault, control_line_fault, batch_fault_in, recipe_among, row_of_order, are_numbered}
use Rattle.plant_check_rules.proofs.BookedRowsMove.{filter_mapped}
use Rattle.plant_requirements.proofs.NoFault.{met_exact, no_more, or_exact, unless_exact, rows_exact as each_row}
use Rattle.plant_check_laws.proofs.ExactTests.{equal_exact, both, in_words, any_exact}
use Rattle.plant_check_laws.proofs.EqualIsSame.{control_is}
use Rattle.plant_check_laws.proofs.EventsExact.{row_exact, HasRun}
use Rattle.plant_check_laws.proofs.NumberedRows.{rows_exact, owned_numbers}
use Rattle.plant_check_laws.proofs.OrdersExact.{IsRightJob, Closes, batch_found}
use Rattle.plant_check_laws.proofs.DistinctKeys.{AreApart, one_left, one_found, apart_alone, ids_apart}

-- ---- one batch an order

abbrev has_order_of : Batch → Batch → Bool
has_order_of b x = same x.job b.job

-- two batches that are each the first of their orders are of two orders
orders_differ : (batches : List Batch) (a b : Batch) → batch_order a b ≡ Less → batch_among batches a.job ≡ Some a → batch_among batches b.job ≡ Some b → (has_order_of a b ≡ false) × (has_order_of b a ≡ false)
orders_differ batches a b less first second = (nat_list_eq_equiv.symm b.job a.job ∙ apart, apart)
  where
    by : (z : Bool) → same a.job b.job ≡ z → z ≡ false
    by true e =
        let found : Some a ≡ Some b = sym first ∙ ap (batch_among batches) (same_id a.job b.job e) ∙ second in
        let both : a ≡ b = cc in
        absurd (false≢true (sym (ids_apart a.id b.id less).0 ∙ ap (λ (x : Batch). same a.id x.id) (sym both) ∙ same_itself a.id))
    by false e = refl

    apart : same a.job b.job ≡ false
    apart = by (same a.job b.job) refl

orders_apart : (batches bs : List Batch) → IsStrictlySortedBy batch_order bs → AllByRecursion (λ b. batch_among batches b.job ≡ Some b) bs → AreApart has_order_of bs
unfolding IsStrictlySortedBy
orders_apart batches [] sorted alone = tt
orders_apart batches (b ∷ bs) sorted alone = (all_two _ _ _ (λ (x : Batch) less its. orders_differ batches b x less alone.0 its) bs sorted.0 alone.1, orders_apart batches bs sorted.1 alone.1)

abbrev IsAlone : List BatchRow → BatchRow → Type 0
IsAlone batches b = length (filter (λ x. same x.batch.job b.batch.job) batches) ≡ 1

alone_each : (batches : List BatchRow) → IsStrictlySortedBy batch_order (map batch_of_row batches) → AllByRecursion (λ b. batch_among (map batch_of_row batches) b.job ≡ Some b) (map batch_of_row batches) → AllByRecursion (IsAlone batches) batches
alone_each batches sorted first =
    let bs = map batch_of_row batches in
    let left = one_left has_order_of (λ b. same_itself b.job) bs (orders_apart bs bs sorted first) in
    all_weaker _ (IsAlone batches) (λ (b : BatchRow) one.
    let own = λ (x : BatchRow). same x.batch.job b.batch.job in
    sym (length-map (filter own batches) batch_of_row) ∙ ap length (sym (filter_mapped (has_order_of b.batch) batch_of_row batches) ∙ one)) batches
    (all_unmapped (λ (b : Batch). filter (has_order_of b) bs ≡ b ∷ []) batch_of_row batches left)

-- ---- control recipes

control_exact : (o : Option (List RecipeLine)) (lines : List RecipeLine) → Decides (is_control o lines) (o ≡ Some lines)
control_exact o lines = (control_is o lines, (λ e. ap (λ c. is_control c lines) e ∙ (lists_equiv laws-law).refl lines))

module _ (recipes : List Recipe) (rows : List MasterLine) (jobs : List Job)
    (formed : AllByRecursion (λ (h : Header). is_well_formed h (lines_among rows h.recipe h.version) ≡ true) (headers_of recipes))
    (sized : AllByRecursion (λ (o : OrderRow). is_size_of_some (header_among (headers_of recipes) o.recipe o.version) o.size ≡ true) (orders_of jobs)) where
  of_found : (o : OrderRow) → is_size_of_some (header_among (headers_of recipes) o.recipe o.version) o.size ≡ true → (found : Option Recipe) → recipe_among recipes o.recipe o.version ≡ found
      → control_of_found rows o.size found ≡ control_of_header rows o (option_map (λ q. q.header) found)
  of_found o fits None e = refl
  of_found o fits (Some q) e =
      let test = λ (x : Recipe). same x.header.recipe o.recipe && x.header.version == o.version in
      let key = same_key q.header.recipe o.recipe q.header.version o.version (found_passes test recipes q e) in
      let lines = lines_among rows q.header.recipe q.header.version in
      let well = found_keeps (λ (x : Recipe). is_well_formed x.header (lines_among rows x.header.recipe x.header.version) ≡ true) test recipes q
      (all_unmapped (λ (h : Header). is_well_formed h (lines_among rows h.recipe h.version) ≡ true) (λ (x : Recipe). x.header) recipes formed) e in
      let size : is_size_of q.header o.size ≡ true = ap (λ r. is_size_of_some (option_map (λ (x : Recipe). x.header) r) o.size) (sym e) ∙ ap (λ h. is_size_of_some h o.size) (sym (header_found recipes o.recipe o.version)) ∙ fits in
      ap (λ b. cond b (control_sized q.header lines o.size) None) well
      ∙ ap (λ b. cond b (control_of q.header lines o.size) None) size
      ∙ (λ i. control_of q.header (lines_among rows (key.0 i) (key.1 i)) o.size)

  -- where recipes are well formed and orders have sizes of them the control recipe that is asked for is that of the order
  asked_is_ordered : (id : List ℕ) → control_asked_for recipes rows (job_among jobs id) ≡ control_of_order (headers_of recipes) rows (order_among (orders_of jobs) id)
  asked_is_ordered id = by (job_among jobs id) refl ∙ ap (control_of_order (headers_of recipes) rows) (sym (find_mapped (λ (o : OrderRow). same o.order id) (λ (j : Job). j.order) jobs))
    where
      by : (j : Option Job) → job_among jobs id ≡ j → control_asked_for recipes rows j ≡ control_of_order (headers_of recipes) rows (option_map (λ x. x.order) j)
      by None e = refl
      by (Some j) e =
          let fits = found_keeps (λ (j : Job). is_size_of_some (header_among (headers_of recipes) j.order.recipe j.order.version) j.order.size ≡ true) (λ (j : Job). same j.order.order id) jobs j
          (all_unmapped (λ (o : OrderRow). is_size_of_some (header_among (headers_of recipes) o.recipe o.version) o.size ≡ true) (λ (j : Job). j.order) jobs sized) e in
          of_found j.order fits (recipe_among recipes j.order.recipe j.order.version) refl ∙ ap (control_of_header rows j.order) (sym (header_found recipes j.order.recipe j.order.version))

  -- ---- all batches

  module _ (batches : List BatchRow) (control : List ControlLine) where
    -- what the rule says of a batch
    pub record IsRight (b : BatchRow) : Type 0 where
      pub alone : IsAlone batches b
      pub numbered : control_among control b.batch.id ≡ numbered (control_line b.batch.id) 1 (map (λ l. l.line) (control_among control b.batch.id))
      pub scaled : control_of_order (headers_of recipes) rows (order_among (orders_of jobs) b.batch.job) ≡ Some (map (λ l. l.line) (control_among control b.batch.id))

    numbers_exact : (id : List ℕ) → Decides (are_numbered 1 (map (λ l. l.number) (control_among control id))) (control_among control id ≡ numbered (control_line id) 1 (map (λ l. l.line) (control_among control id)))
    numbers_exact id =
        let own = λ (l : ControlLine). same l.batch id in
        rows_exact (control_line id) (λ l. l.number) (λ l. l.line) (λ l. own l ≡ true) (λ l is. let key = same_id l.batch id is in λ i. record l { batch = sym key i }) (λ k l. refl) 1 (filter own control) (filtered_passes own control)

    batch_exact : (b : BatchRow) → Decides (is_none (batch_fault recipes rows jobs batches control b)) (IsRight b)
    batch_exact b =
        let own = control_among control b.batch.id in
        let lines = map (λ (l : ControlLine). l.line) own in
        let asked = asked_is_ordered b.batch.job in
        let alone = equal_exact (length (filter (λ (x : BatchRow). same x.batch.job b.batch.job) batches)) 1 in
        in_words (met_exact (of_batch recipes rows jobs batches own b) (both alone (both (numbers_exact b.batch.id) (both (control_exact (control_asked_for recipes rows (job_among jobs b.batch.job)) lines) no_more))))
        (λ p. record { alone = p.0; numbered = p.1.0; scaled = sym asked ∙ p.1.1.0 })
        (λ w. (w.alone, (w.numbered, (asked ∙ w.scaled, tt))))

    -- no batch and no control line has a fault
    abbrev AreFaultless : Type 0
    AreFaultless = is_none (batch_fault_in recipes rows jobs batches control) ≡ true

    pub batches_exact : Decides (is_none (batch_fault_in recipes rows jobs batches control)) (AllByRecursion IsRight batches × AllByRecursion (λ l. is_batch_among (map batch_of_row batches) l.batch ≡ true) control)
    batches_exact = or_exact _ _
        (each_row (batch_fault recipes rows jobs batches control) IsRight batch_exact batches)
        (each_row (control_line_fault batches) _ (λ l. unless_exact (is_row_among batches l.batch) _ (row_exact batches l.batch)) control)

    abbrev IsConsistent : Batch → Type 0
    IsConsistent = IsConsistentBatch (headers_of recipes) rows (orders_of jobs) (map batch_of_row batches) control

    -- consistent batches keep to the rule
    pub right_batches : (events : List BatchEvent) → AreConsistentBatches (headers_of recipes) rows (orders_of jobs) (map batch_of_row batches) control events → AreFaultless
    right_batches events c =
        let alone = alone_each batches c.sorted (all_weaker IsConsistent _ (λ b its. its.alone) (map batch_of_row batches) c.each) in
        let each = all_unmapped IsConsistent batch_of_row batches c.each in
        batches_exact.1 (all_two (IsAlone batches) (λ (b : BatchRow). IsConsistent b.batch) IsRight (λ b alone its. record { alone = alone; numbered = its.numbered; scaled = its.scaled }) batches alone each, c.controlled)

    module _ (tests : AreFaultless) where
      -- each control line has a number
      pub control_numbered : AllByRecursion (λ l. 1 ≤ l.number) control
      control_numbered =
          let right = batches_exact.0 tests in
          owned_numbers (λ (b : BatchRow) (l : ControlLine). same l.batch b.batch.id) (λ (l : ControlLine) (b : BatchRow). same b.batch.id l.batch) (λ b l is. nat_list_eq_equiv.symm l.batch b.batch.id ∙ is) (λ (l : ControlLine). l.number) batches control
          (all_weaker IsRight _ (λ b w. (numbers_exact b.batch.id).1 w.numbered) batches right.0)
          (all_weaker _ _ (λ (l : ControlLine) there. (any_exact (λ (b : BatchRow). same b.batch.id l.batch) batches).0 ((row_exact batches l.batch).1 there)) control right.1)

      -- the row of a batch's order is its own
      rows_found : AllByRecursion (λ b. row_of_order batches b.batch.job ≡ Some b) batches
      rows_found =
          let of_order = λ (b x : BatchRow). same x.batch.job b.batch.job in
          let own = λ (b : BatchRow). same_itself b.batch.job in
          one_found of_order own batches (apart_alone of_order own (λ b x. nat_list_eq_equiv.symm x.batch.job b.batch.job) batches (all_weaker IsRight (IsAlone batches) (λ b w. w.alone) batches (batches_exact.0 tests).0))

      pub consistent_batches : (events : List BatchEvent) → IsStrictlySortedBy batch_order (map batch_of_row batches) → IsStrictlySortedBy control_line_order control → AllByRecursion (λ (b : BatchRow). HasBatchValues b.batch) batches → AllByRecursion (λ (e : BatchEvent). is_batch_among (map batch_of_row batches) e.batch ≡ true) events
          → AreConsistentBatches (headers_of recipes) rows (orders_of jobs) (map batch_of_row batches) control events
      consistent_batches events sorted control_sorted values witnessed =
          let right = batches_exact.0 tests in
          let found = all_two _ _ _ (λ (b : BatchRow) (v : HasBatchValues b.batch) found. (v, found)) batches values rows_found in
          record {
            sorted = sorted;
            control_sorted = control_sorted;
            each = all_mapped IsConsistent batch_of_row batches (all_two (λ (b : BatchRow). HasBatchValues b.batch × (row_of_order batches b.batch.job ≡ Some b)) IsRight (λ b. IsConsistent b.batch)
                (λ b f w. record { values = f.0; alone = batch_found batches b.batch.job ∙ ap (option_map batch_of_row) f.1; scaled = w.scaled; numbered = w.numbered }) batches found right.0);
            controlled = right.1;
            witnessed = witnessed;
          }

      -- a batch is closed where its order is finished
      closed_by : AllByRecursion (IsRightJob recipes batches) jobs → (b : BatchRow) → row_of_order batches b.batch.job ≡ Some b → IsRight b → (j : Option Job) → job_among jobs b.batch.job ≡ j → b.closed ≡ has_finished j
      closed_by orders b found w None e = let none : control_asked_for recipes rows None ≡ Some _ = ap (control_asked_for recipes rows) (sym e) ∙ asked_is_ordered b.batch.job ∙ w.scaled in absurd (cc)
      closed_by orders b found w (Some j) e =
          let test = λ (j : Job). same j.order.order b.batch.job in
          let own : j.order.order ≡ b.batch.job = same_id j.order.order b.batch.job (found_passes test jobs j e) in
          let right : IsRightJob recipes batches j = found_keeps (IsRightJob recipes batches) test jobs j orders e in
          subst (λ o. IfSome o (λ (x : BatchRow). x.closed ≡ has_finished (Some j))) (ap (row_of_order batches) own ∙ found) right.closed

      pub consistent_runs : (events : List BatchEvent) → AllByRecursion (IsRightJob recipes batches) jobs → AllByRecursion (HasRun control events) batches → AreConsistentRuns jobs (map batch_of_row batches) control events
      consistent_runs events orders runs =
          let closed = all_two (λ (b : BatchRow). row_of_order batches b.batch.job ≡ Some b) IsRight (Closes jobs) (λ b found w. closed_by orders b found w (job_among jobs b.batch.job) refl) batches rows_found (batches_exact.0 tests).0 in
          all_mapped (IsConsistentRun jobs control events) batch_of_row batches
          (all_two (HasRun control events) (Closes jobs) (λ b. IsConsistentRun jobs control events b.batch) (λ b run closed. record { allowed = run.allowed; finished = ap (λ (x : BatchRow). x.closed) run.kept ∙ closed }) batches runs closed)
