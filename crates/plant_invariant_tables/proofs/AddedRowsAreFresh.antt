-- Row changes that make the tables after a command add each row under a key of its own.
use Rattle.std.proofs.Common.{◌≡◌, ◌∙◌, ◌≤◌, Bool, true, false, List, [], ◌∷◌, ◌++◌, length, filter, Some, refl, sym, ap, subst, append_assoc, arith, ◌&&◌, ◌==◌, count_by, nat_cmp, is_eq, Ordering, Less, Equal, Greater, leb-true, append-nil}
use Rattle.std.specs.Cmp.{both_tied, unsigned_ties}
use Rattle.std.specs.Cmp.Lexicographic.{texts_ties}
use Rattle.std.specs.List.{AllByRecursion}
use Rattle.std.specs.List.Sorted.{IsStrictlySortedBy}
use Rattle.std.specs.Ordering.{match_ordering}
use Rattle.std.proofs.lemmas.Bool.{false≢true}
use Rattle.std.proofs.lemmas.List.Sums.{length-filter}
use Rattle.std.proofs.lemmas.Option.{same_Some}
use Rattle.plant_base.specs.{State, newest_schema, same, put, event_order, movement_order, HasValues, Batch, BatchEvent, BatchRow, Envelope, Movement}
use Rattle.plant_view.proofs.ListLemmas.{all_weaker, same_id, same_itself, all_mapped}
use Rattle.plant_view.specs.{batch_among, tables_of, changed, changed_all, batch_row, batch_row_order, RowChange, is_batch, puts_one_batch}
use Rattle.plant_view.specs.DecisionInvariant.{DecisionInvariant}
use Rattle.plant_view.specs.TableRows.{Tables}
use Rattle.plant_view.specs.declared.change.RowChange.TheVariants as change
use Rattle.plant_rules.specs.{step}
use Rattle.plant_invariant.specs.StateInvariant.{StateInvariant}
use Rattle.plant_invariant.proofs.StepPreservesInvariant.{step_preserves_validity}
use Rattle.plant_tables.specs.{IsFresh, AreFresh}

-- ---- rows at the end

-- the rows before one are below it
below_next : {X : Type 0} (order : X → X → Ordering) (xs : List X) (y : X) (zs : List X) → IsStrictlySortedBy order (xs ++ y ∷ zs) → AllByRecursion (λ x. order x y ≡ Less) xs
unfolding IsStrictlySortedBy
below_next order [] y zs sorted = tt
below_next {X} order (x ∷ xs) y zs sorted = (at_next xs sorted.0, below_next order xs y zs sorted.1)
  where
    at_next : (us : List X) → AllByRecursion (λ u. order x u ≡ Less) (us ++ y ∷ zs) → order x y ≡ Less
    at_next [] a = a.0
    at_next (u ∷ us) a = at_next us a.1

-- changes add movements after those that are there
movements_behind : (rows : List RowChange) (t : Tables) → (more : List Movement) × ((changed_all rows t).movements ≡ t.movements ++ more)
movements_behind [] t = ([], sym (append-nil t.movements))
movements_behind (change.Movement r ∷ rows) t = let rest = movements_behind rows (changed (change.Movement r) t) in (r ∷ rest.0, rest.1 ∙ append_assoc t.movements (r ∷ []) rest.0)
movements_behind (c ∷ rows) t = movements_behind rows (changed c t)

-- and events
events_behind : (rows : List RowChange) (t : Tables) → (more : List BatchEvent) × ((changed_all rows t).events ≡ t.events ++ more)
events_behind [] t = ([], sym (append-nil t.events))
events_behind (change.Event r ∷ rows) t = let rest = events_behind rows (changed (change.Event r) t) in (r ∷ rest.0, rest.1 ∙ append_assoc t.events (r ∷ []) rest.0)
events_behind (c ∷ rows) t = events_behind rows (changed c t)

movement_test : (a b : Movement) → (a.seq == b.seq && a.line == b.line) ≡ is_eq (movement_order a b)
movement_test a b = both_tied _ _ (nat_cmp a.seq b.seq) (nat_cmp a.line b.line) (unsigned_ties a.seq b.seq) (unsigned_ties a.line b.line)

fresh_movement : (r : Movement) (rows : List RowChange) (t : Tables) → IsStrictlySortedBy movement_order (changed_all rows (changed (change.Movement r) t)).movements → IsFresh (change.Movement r) t
fresh_movement r rows t sorted =
    let own = movements_behind rows (changed (change.Movement r) t) in
    let grown : (changed_all rows (changed (change.Movement r) t)).movements ≡ t.movements ++ r ∷ own.0 = own.1 ∙ append_assoc t.movements (r ∷ []) own.0 in
    all_weaker _ _ (λ (m : Movement) less. movement_test m r ∙ ap is_eq less) t.movements (below_next movement_order t.movements r own.0 (subst (IsStrictlySortedBy movement_order) grown sorted))

fresh_event : (r : BatchEvent) (rows : List RowChange) (t : Tables) → IsStrictlySortedBy event_order (changed_all rows (changed (change.Event r) t)).events → IsFresh (change.Event r) t
fresh_event r rows t sorted =
    let own = events_behind rows (changed (change.Event r) t) in
    let grown : (changed_all rows (changed (change.Event r) t)).events ≡ t.events ++ r ∷ own.0 = own.1 ∙ append_assoc t.events (r ∷ []) own.0 in
    all_weaker _ _ (λ (e : BatchEvent) less. unsigned_ties e.seq r.seq ∙ ap is_eq less) t.events (below_next event_order t.events r own.0 (subst (IsStrictlySortedBy event_order) grown sorted))

-- ---- batches

-- two batches of one order are one
abbrev IsOneJob : BatchRow → BatchRow → Type 0
IsOneJob a b = same a.batch.job b.batch.job ≡ true → same a.batch.id b.batch.id ≡ true

abbrev HaveOwnJobs : List BatchRow → Type 0
HaveOwnJobs batches = AllByRecursion (λ a. AllByRecursion (IsOneJob a) batches) batches

-- where no change is of a batch the batches stay
batches_stay : (rows : List RowChange) (t : Tables) → length (filter is_batch rows) ≡ 0 → (changed_all rows t).batches ≡ t.batches
batches_stay [] t none = refl
batches_stay (change.Batch r ∷ rows) t none = absurd (omega (arith, none))
batches_stay (c ∷ rows) t none = batches_stay rows (changed c t) none

module _ {R : Type 0} (order : R → R → Ordering) (P : R → Type 0) (r : R) where
  -- what holds of all after a row was put holds of it
  put_own : (rs : List R) → AllByRecursion P (put order r rs) → P r
  put_own [] a = a.0
  put_own (x ∷ xs) a = by (order r x) (put_own xs) a
    where
      by : (o : Ordering) → (AllByRecursion P (put order r xs) → P r) → AllByRecursion P (match_ordering o (r ∷ x ∷ xs) (r ∷ xs) (x ∷ put order r xs)) → P r
      by Less more h = h.0
      by Equal more h = h.0
      by Greater more h = more h.1

  -- and of the others
  put_others : (rs : List R) → AllByRecursion P (put order r rs) → AllByRecursion (λ x. is_eq (order r x) ≡ false → P x) rs
  put_others [] a = tt
  put_others (x ∷ xs) a = by (order r x) refl (put_others xs) a
    where
      rest : (ys : List R) → AllByRecursion P ys → AllByRecursion (λ y. is_eq (order r y) ≡ false → P y) ys
      rest ys b = all_weaker P (λ y. is_eq (order r y) ≡ false → P y) (λ y h apart. h) ys b

      by : (o : Ordering) → order r x ≡ o → (AllByRecursion P (put order r xs) → AllByRecursion (λ y. is_eq (order r y) ≡ false → P y) xs) → AllByRecursion P (match_ordering o (r ∷ x ∷ xs) (r ∷ xs) (x ∷ put order r xs)) → (is_eq (order r x) ≡ false → P x) × AllByRecursion (λ y. is_eq (order r y) ≡ false → P y) xs
      by Less l more h = (λ apart. h.1.0, rest xs h.1.1)
      by Equal l more h = (λ apart. absurd (false≢true (sym apart ∙ ap is_eq l)), rest xs h.1)
      by Greater l more h = (λ apart. h.0, more h.1)

fresh_batch : (r : BatchRow) (rows : List RowChange) (t : Tables) → length (filter is_batch rows) ≡ 0 → HaveOwnJobs (changed_all rows (changed (change.Batch r) t)).batches → IsFresh (change.Batch r) t
fresh_batch r rows t none own =
    let there : HaveOwnJobs (put batch_row_order r t.batches) = subst HaveOwnJobs (batches_stay rows (changed (change.Batch r) t) none) own in
    all_weaker _ (λ (b : BatchRow). IsOneJob b r) (λ (b : BatchRow) others. by b others (is_eq (batch_row_order r b)) refl) t.batches
    (put_others batch_row_order (λ (b : BatchRow). AllByRecursion (IsOneJob b) (put batch_row_order r t.batches)) r t.batches there)
  where
    by : (b : BatchRow) → (is_eq (batch_row_order r b) ≡ false → AllByRecursion (IsOneJob b) (put batch_row_order r t.batches)) → (e : Bool) → is_eq (batch_row_order r b) ≡ e → IsOneJob b r
    by b others false apart = put_own batch_row_order (IsOneJob b) r t.batches (others apart)
    by b others true tied = λ one. ap (λ i. same b.batch.id i) (tied_id b tied) ∙ same_itself b.batch.id
      where
        tied_id : (q : BatchRow) → is_eq (batch_row_order r q) ≡ true → r.batch.id ≡ q.batch.id
        tied_id q e = same_id r.batch.id q.batch.id (texts_ties r.batch.id q.batch.id ∙ e)

-- ---- changes one after the other

fresh_rows : (rows : List RowChange) (t : Tables) → IsStrictlySortedBy movement_order (changed_all rows t).movements → IsStrictlySortedBy event_order (changed_all rows t).events → HaveOwnJobs (changed_all rows t).batches → length (filter is_batch rows) ≤ 1 → AreFresh rows t
fresh_rows [] t movements events batches one = tt
fresh_rows (change.Movement r ∷ rows) t movements events batches one = (fresh_movement r rows t movements, fresh_rows rows (changed (change.Movement r) t) movements events batches one)
fresh_rows (change.Event r ∷ rows) t movements events batches one = (fresh_event r rows t events, fresh_rows rows (changed (change.Event r) t) movements events batches one)
fresh_rows (change.Batch r ∷ rows) t movements events batches one =
    let none : length (filter is_batch rows) ≡ 0 = omega (arith, one) in
    (fresh_batch r rows t none batches, fresh_rows rows (changed (change.Batch r) t) movements events batches (omega (arith, none)))
fresh_rows (c ∷ rows) t movements events batches one = (tt, fresh_rows rows (changed c t) movements events batches one)

-- ---- valid states

-- the batches of a consistent state are of different orders
own_jobs : (s : State) → DecisionInvariant s → HaveOwnJobs (tables_of newest_schema s).batches
own_jobs s sound =
    let row = batch_row s.control_lines s.events in
    let Alone : Batch → Type 0 = λ b. batch_among s.batches b.job ≡ Some b in
    let alone = all_weaker _ Alone (λ (b : Batch) w. w.alone) s.batches sound.production.batches.each in
    all_mapped _ row s.batches (all_weaker Alone _ (λ (a : Batch) first. all_mapped (IsOneJob (row a)) row s.batches
    (all_weaker Alone _ (λ (b : Batch) second one. one_batch a b first second one) s.batches alone)) s.batches alone)
  where
    one_batch : (a b : Batch) → batch_among s.batches a.job ≡ Some a → batch_among s.batches b.job ≡ Some b → same a.job b.job ≡ true → same a.id b.id ≡ true
    one_batch a b first second one =
        let both : a ≡ b = same_Some a b (sym first ∙ ap (batch_among s.batches) (same_id a.job b.job one) ∙ second) in
        ap (λ (x : Batch). same a.id x.id) (sym both) ∙ same_itself a.id

pub fresh : (s : State) → StateInvariant s → (e : Envelope) → HasValues e → (rows : List RowChange) → changed_all rows (tables_of newest_schema s) ≡ tables_of newest_schema (step s e) → puts_one_batch rows ≡ true → AreFresh rows (tables_of newest_schema s)
fresh s valid e values rows leads one =
    let next = step_preserves_validity s valid e values in
    fresh_rows rows (tables_of newest_schema s)
    (subst (λ (t : Tables). IsStrictlySortedBy movement_order t.movements) (sym leads) next.numbers.movements)
    (subst (λ (t : Tables). IsStrictlySortedBy event_order t.events) (sym leads) next.numbers.events)
    (subst (λ (t : Tables). HaveOwnJobs t.batches) (sym leads) (own_jobs (step s e) next.sound))
    (omega (arith, leb-true (count_by is_batch rows) 1 one, length-filter is_batch rows))
