-- What the fold of a batch's events does, turn by turn.
use Rattle.std.proofs.Common.{◌≡◌, ◌∙◌, ℕ, ◌+◌, ◌<◌, ◌≤◌, Bool, true, false, cond, List, [], ◌∷◌, ◌++◌, length, drop, get_or, Option, Some, None, Result, Ok, Err, refl, ap, sym, subst, arith, fold, IsErr, IfOk, IsTrue, nat_le, ◌&&◌, ◌||◌, ◌==◌, not, min}
use Rattle.std.specs.Result.{result_ok, result_unwrap_or}
use Rattle.std.proofs.lemmas.Bool.{false≢true, and_parts, not-false}
use Rattle.std.proofs.lemmas.Bool.Decides.{nat_tests}
use Rattle.std.proofs.lemmas.Result.{IfOk-at_ok}
use Rattle.std.proofs.lemmas.List.{at_drop_more}
use Rattle.std.proofs.lemmas.List.Elements.{All-contains}
use Rattle.std.proofs.lemmas.List.Sums.{fold_push, fold-append, AllPass-from_list_all}
use Rattle.std.proofs.lemmas.List.Folds.{fold_along, fold_stays}
use Rattle.plant_base.specs.{BatchState, Event, Refusal, Word}
use Rattle.plant_base.specs.declared.states.BatchState.TheVariants.{Complete}
use Rattle.plant_base.specs.declared.states.Word.TheVariants.{Done}
use Rattle.plant_base.specs.declared.states.Event.TheVariants.{Moved, PhaseDone, Closed}
use Rattle.plant_base.specs.declared.refusal.Refusal.TheVariants.{PhasesLeft, NotNextPhase, BatchClosed, WrongState, TooMany, NotFinished}
use Rattle.plant_recipe.specs.declared.progress.Progress.{Progress}
use Rattle.plant_recipe.specs.{Row, state_table, next_state_of, greatest_attempt, greatest_phases, opening_progress, is_running, is_ended, is_done, is_reset, is_phase_left, refuse_event, moved_to, ends_with_phases_left, has_no_attempt_left, turn_to, turn_moved, turn_phase_done, turn_closed, turn, then_turn, run_of, progress_of, turn_or_stay, progress_after, IsInRange, ClosingIsFinal, StaysInRange, NeverFalls, GoesAlong}
use Rattle.plant_recipe.proofs.TableIsCases.{whole_table}

-- ---- one more event

-- nothing follows a refusal
pub stays_refused : (phases : ℕ) (refusal : Refusal) (events : List Event) → fold (then_turn phases) (Err refusal) events ≡ Err refusal
stays_refused phases refusal events = fold_stays (then_turn phases) (Err refusal) (λ e. refl) events

-- the turn of the event at a position
pub turn_at : (phases : ℕ) (p : Progress) (events : List Event) (i : ℕ) (d : Event) → i < length events → fold (then_turn phases) (Ok p) (drop i events) ≡ fold (then_turn phases) (turn phases p (get_or events i d)) (drop (i + 1) events)
turn_at phases p events i d h = at_drop_more (λ es. fold (then_turn phases) (Ok p) es) events i d h

-- an event that is refused ends the fold
pub run_stops : (phases : ℕ) (p : Progress) (events : List Event) (i : ℕ) (d : Event) (refusal : Refusal) → i < length events → turn phases p (get_or events i d) ≡ Err refusal → fold (then_turn phases) (Ok p) (drop i events) ≡ Err refusal
run_stops phases p events i d refusal h e = turn_at phases p events i d h ∙ ap (λ r. fold (then_turn phases) r (drop (i + 1) events)) e ∙ stays_refused phases refusal (drop (i + 1) events)

pub run_push : (phases : ℕ) (events : List Event) (event : Event) → run_of phases (events ++ event ∷ []) ≡ then_turn phases (run_of phases events) event
unfolding run_of
run_push phases events event = fold_push (then_turn phases) (Ok opening_progress) events event

pub progress_after_push : (phases : ℕ) (events : List Event) (event : Event) → progress_after phases (events ++ event ∷ []) ≡ turn_or_stay phases (progress_after phases events) event
unfolding progress_after
progress_after_push phases events event = fold_push (turn_or_stay phases) opening_progress events event

ok_only : (r : Result Progress Refusal) (p : Progress) → result_ok r ≡ Some p → r ≡ Ok p
ok_only (Ok q) p e = cc
ok_only (Err refusal) p e = cc

pub run_ok : (phases : ℕ) (events : List Event) (p : Progress) → progress_of phases events ≡ Some p → run_of phases events ≡ Ok p
run_ok phases events p e = ok_only (run_of phases events) p e

-- ---- both definitions of the fold

step_along : (phases : ℕ) (r : Result Progress Refusal) (q : Progress) (event : Event) → IfOk r (λ p. p ≡ q) → IfOk (then_turn phases r event) (λ p. p ≡ turn_or_stay phases q event)
step_along phases (Err refusal) q event h = tt
step_along phases (Ok p) q event h = subst (λ (x : Progress). IfOk (turn phases p event) (λ y. y ≡ turn_or_stay phases x event)) h (elim (turn phases p event) as (λ r. IfOk r (λ y. y ≡ result_unwrap_or r p)) [ Ok x ↦ refl | Err x ↦ tt ])

if_ok_at : (r : Result Progress Refusal) (p q : Progress) → r ≡ Ok p → IfOk r (λ x. x ≡ q) → p ≡ q
if_ok_at (Ok x) p q e h = cc
if_ok_at (Err x) p q e h = cc

pub goes_along : GoesAlong
unfolding run_of progress_after
goes_along phases events p e = sym (if_ok_at (run_of phases events) p _ (run_ok phases events p e) (fold_along (then_turn phases) (turn_or_stay phases) (λ r q. IfOk r (λ p. p ≡ q)) (λ r q event h. step_along phases r q event h) (Ok opening_progress) opening_progress events refl))

-- ---- laws

refused : (P : Progress → Type 0) (test : Bool) (refusal : Refusal) (rest : Result Progress Refusal) → (test ≡ false → IfOk rest P) → IfOk (refuse_event test refusal rest) P
refused P true refusal rest h = tt
refused P false refusal rest h = h refl

fails_here : (test : Bool) (refusal : Refusal) (rest : Result Progress Refusal) → test ≡ true → IsErr (refuse_event test refusal rest)
fails_here true refusal rest e = refl
fails_here false refusal rest e = absurd (false≢true e)

fails_later : (test : Bool) (refusal : Refusal) (rest : Result Progress Refusal) → IsErr rest → IsErr (refuse_event test refusal rest)
fails_later true refusal rest e = refl
fails_later false refusal rest e = e

move_ends : (phases : ℕ) (p : Progress) (word : Word) (to : Option BatchState) → IsTrue p.closed → IsErr (turn_to phases p word to)
move_ends phases p word None h = refl
move_ends phases p word (Some to) h = fails_later (ends_with_phases_left phases p word) PhasesLeft _ (fails_here p.closed BatchClosed _ h)

pub closing_is_final : ClosingIsFinal
unfolding turn_moved turn_phase_done turn_closed
closing_is_final phases p (Moved word) h = move_ends phases p word (next_state_of p.state word) h
closing_is_final phases p (PhaseDone number) h = fails_later _ NotNextPhase _ (fails_here p.closed BatchClosed _ h)
closing_is_final phases p Closed h = fails_here p.closed BatchClosed _ h

abbrev is_complete : Option BatchState → Bool
is_complete (Some Complete) = true
is_complete _ = false

-- only the ending of the running makes a batch complete, in each row of the table
abbrev is_right_end : Row → Bool
is_right_end r = not (is_complete (Some r.2)) || (is_done r.1 && is_running r.0)

only_done : (from : BatchState) (word : Word) → next_state_of from word ≡ Some Complete → (is_done word && is_running from) ≡ true
only_done from word e = All-contains (λ r. is_right_end r ≡ true) state_table (from, word, Complete) (AllPass-from_list_all is_right_end state_table refl) ((whole_table from word Complete).1 e)

done_no_reset : (word : Word) → is_done word ≡ true → is_reset word ≡ true → ⊥
done_no_reset Done d r = false≢true r
done_no_reset _ d r = false≢true d

-- ---- what stays in range

-- a batch that becomes complete has no phase left
none_left : (phases : ℕ) (p : Progress) (word : Word) (to : BatchState) → next_state_of p.state word ≡ Some to → ends_with_phases_left phases p word ≡ false → to ≡ Complete → (is_done word ≡ true) × (is_phase_left phases p ≡ false)
none_left phases p word to e a t =
    let tests = only_done p.state word (e ∙ ap (λ s. Some s) t) in
    ((and_parts (is_done word) (is_running p.state) tests).0, sym (ap (λ b. b && is_phase_left phases p) tests) ∙ a)

reset_range : (phases : ℕ) (p : Progress) (word : Word) (to : BatchState) → IsInRange phases p → next_state_of p.state word ≡ Some to → ends_with_phases_left phases p word ≡ false → p.closed ≡ false → is_reset word ≡ true → nat_le greatest_attempt p.attempt ≡ false → IsInRange phases (record { state = to; attempt = p.attempt + 1; next = 1; closed = p.closed })
reset_range phases p word to s e a b r c = record {
  first_attempt = omega arith;
  last_attempt = next_attempt p.attempt c;
  first_phase = omega arith;
  last_phase = omega arith;
  within_phases = omega arith;
  ended = λ t. absurd (false≢true (sym b ∙ t));
  finished = λ t. absurd (done_no_reset word (none_left phases p word to e a t).0 r);
}
  where
    next_attempt : (n : ℕ) → nat_le greatest_attempt n ≡ false → n + 1 ≤ greatest_attempt
    next_attempt n e = grind (arith, nat_tests)

other_range : (phases : ℕ) (p : Progress) (word : Word) (to : BatchState) → IsInRange phases p → next_state_of p.state word ≡ Some to → ends_with_phases_left phases p word ≡ false → p.closed ≡ false → IsInRange phases (record { state = to; attempt = p.attempt; next = p.next; closed = p.closed })
other_range phases p word to s e a b = record {
  first_attempt = s.first_attempt;
  last_attempt = s.last_attempt;
  first_phase = s.first_phase;
  last_phase = s.last_phase;
  within_phases = s.within_phases;
  ended = λ t. absurd (false≢true (sym b ∙ t));
  finished = λ t. (none_left phases p word to e a t).1;
}

range_moved : (phases : ℕ) (p : Progress) (word : Word) (to : BatchState) → IsInRange phases p → next_state_of p.state word ≡ Some to → ends_with_phases_left phases p word ≡ false → p.closed ≡ false → has_no_attempt_left p word ≡ false → IsInRange phases (moved_to p word to)
range_moved phases p word to s e a b c =
    elim (is_reset word) as (λ t. is_reset word ≡ t → (t && nat_le greatest_attempt p.attempt) ≡ false → IsInRange phases (cond t (record { state = to; attempt = p.attempt + 1; next = 1; closed = p.closed }) (record { state = to; attempt = p.attempt; next = p.next; closed = p.closed }))) [
      | true ↦ λ r d. reset_range phases p word to s e a b r d
      | false ↦ λ r d. other_range phases p word to s e a b
    ] refl c

range_to : (phases : ℕ) (p : Progress) (word : Word) (to : Option BatchState) → next_state_of p.state word ≡ to → IsInRange phases p → IfOk (turn_to phases p word to) (IsInRange phases)
range_to phases p word None e s = tt
range_to phases p word (Some to) e s = refused _ (ends_with_phases_left phases p word) PhasesLeft _ (λ a. refused _ p.closed BatchClosed _ (λ b. refused _ (has_no_attempt_left p word) TooMany _ (λ c. range_moved phases p word to s e a b c)))

range_phase_done : (phases : ℕ) (p : Progress) (number : ℕ) → IsInRange phases p → not (number == p.next && is_phase_left phases p) ≡ false → p.closed ≡ false → not (is_running p.state) ≡ false → IsInRange phases (record { state = p.state; attempt = p.attempt; next = p.next + 1; closed = p.closed })
range_phase_done phases p number s e open_ runs =
    let tests = and_parts _ (is_phase_left phases p) (not-false _ e) in
    let left = and_parts (nat_le p.next phases) (nat_le p.next greatest_phases) tests.1 in
    record {
      first_attempt = s.first_attempt;
      last_attempt = s.last_attempt;
      first_phase = omega (arith, s.first_phase);
      last_phase = within p.next greatest_phases left.1;
      within_phases = within p.next phases left.0;
      ended = λ t. absurd (false≢true (sym open_ ∙ t));
      finished = λ t. absurd (false≢true (sym (ap is_running t) ∙ not-false (is_running p.state) runs));
    }
  where
    within : (m n : ℕ) → nat_le m n ≡ true → m + 1 ≤ n + 1
    within m n e = grind (arith, nat_tests)

-- a turn keeps the range
pub range_turn : (phases : ℕ) (p : Progress) (event : Event) → IsInRange phases p → IfOk (turn phases p event) (IsInRange phases)
unfolding turn_moved turn_phase_done turn_closed
range_turn phases p (Moved word) s = range_to phases p word (next_state_of p.state word) refl s
range_turn phases p (PhaseDone number) s = refused _ _ NotNextPhase _ (λ a. refused _ p.closed BatchClosed _ (λ b. refused _ (not (is_running p.state)) WrongState _ (λ c. range_phase_done phases p number s a b c)))
range_turn phases p Closed s = refused _ p.closed BatchClosed _ (λ a. refused _ (not (is_ended p.state)) NotFinished _ (λ b. record {
  first_attempt = s.first_attempt;
  last_attempt = s.last_attempt;
  first_phase = s.first_phase;
  last_phase = s.last_phase;
  within_phases = s.within_phases;
  ended = λ t. not-false (is_ended p.state) b;
  finished = s.finished;
}))

pub range_opening : (phases : ℕ) → IsInRange phases opening_progress
range_opening phases = record { first_attempt = omega arith; last_attempt = omega arith; first_phase = omega arith; last_phase = omega arith; within_phases = omega arith; ended = λ t. absurd (false≢true t); finished = λ t. absurd (false≢true (ap (λ s. is_complete (Some s)) t)) }

-- what each turn keeps holds of the fold
pub kept_by_run : (phases : ℕ) (P : Progress → Type 0) → ((p : Progress) (event : Event) → P p → IfOk (turn phases p event) P) → (r : Result Progress Refusal) (events : List Event) → IfOk r P → IfOk (fold (then_turn phases) r events) P
kept_by_run phases P step r [] h = h
kept_by_run phases P step r (e ∷ es) h = kept_by_run phases P step (then_turn phases r e) es (elim r as (λ x. IfOk x P → IfOk (then_turn phases x e) P) [ Ok p ↦ λ k. step p e k | Err x ↦ λ k. tt ] h)

pub stays_in_range : StaysInRange
unfolding run_of
stays_in_range phases events p e = IfOk-at_ok (IsInRange phases) (run_ok phases events p e) (kept_by_run phases (IsInRange phases) (range_turn phases) (Ok opening_progress) events (range_opening phases))

-- the range holds of the definition that passes refused events over too
pub after_in_range : (phases : ℕ) (events : List Event) → IsInRange phases (progress_after phases events)
unfolding progress_after
after_in_range phases events = kept opening_progress events (range_opening phases)
  where
    kept : (p : Progress) (es : List Event) → IsInRange phases p → IsInRange phases (fold (turn_or_stay phases) p es)
    kept p [] s = s
    kept p (e ∷ es) s = kept (turn_or_stay phases p e) es (elim (turn phases p e) as (λ r. IfOk r (IsInRange phases) → IsInRange phases (result_unwrap_or r p)) [ Ok q ↦ λ k. k | Err x ↦ λ k. s ] (range_turn phases p e s))

-- ---- attempts

attempt_to : (phases : ℕ) (p : Progress) (word : Word) (to : Option BatchState) → IfOk (turn_to phases p word to) (λ q. p.attempt ≤ q.attempt)
attempt_to phases p word None = tt
attempt_to phases p word (Some to) = refused _ (ends_with_phases_left phases p word) PhasesLeft _ (λ a. refused _ p.closed BatchClosed _ (λ b. refused _ (has_no_attempt_left p word) TooMany _ (λ c.
    elim (is_reset word) as (λ t. p.attempt ≤ (cond t (record { state = to; attempt = p.attempt + 1; next = 1; closed = p.closed }) (let q : Progress = record { state = to; attempt = p.attempt; next = p.next; closed = p.closed } in q)).attempt) [ true ↦ omega arith | false ↦ omega arith ])))

-- a turn never lowers the attempt
pub attempt_turn : (phases : ℕ) (p : Progress) (event : Event) → IfOk (turn phases p event) (λ q. p.attempt ≤ q.attempt)
unfolding turn_moved turn_phase_done turn_closed
attempt_turn phases p (Moved word) = attempt_to phases p word (next_state_of p.state word)
attempt_turn phases p (PhaseDone number) =
    let same : p.attempt ≤ p.attempt = omega arith in
    let P : Progress → Type 0 = λ q. p.attempt ≤ q.attempt in
    refused P (not (number == p.next && is_phase_left phases p)) NotNextPhase _ (λ a. refused P p.closed BatchClosed _ (λ b. refused P (not (is_running p.state)) WrongState (Ok (record { state = p.state; attempt = p.attempt; next = p.next + 1; closed = p.closed })) (λ c. same)))
attempt_turn phases p Closed =
    let same : p.attempt ≤ p.attempt = omega arith in
    let P : Progress → Type 0 = λ q. p.attempt ≤ q.attempt in
    refused P p.closed BatchClosed _ (λ a. refused P (not (is_ended p.state)) NotFinished (Ok (record { state = p.state; attempt = p.attempt; next = p.next; closed = true })) (λ b. same))

higher : (phases n : ℕ) (q : Progress) (event : Event) → n ≤ q.attempt → IfOk (turn phases q event) (λ r. n ≤ r.attempt)
higher phases n q event h = elim (turn phases q event) as (λ t. IfOk t (λ r. q.attempt ≤ r.attempt) → IfOk t (λ r. n ≤ r.attempt)) [ Ok r ↦ λ k. omega (arith, h, k) | Err x ↦ λ k. tt ] (attempt_turn phases q event)

pub never_falls : NeverFalls
unfolding run_of
never_falls phases events more p q e f =
    let whole : fold (then_turn phases) (Ok p) more ≡ Ok q = ap (λ r. fold (then_turn phases) r more) (sym (run_ok phases events p e)) ∙ sym (fold-append (then_turn phases) (Ok opening_progress) events more) ∙ run_ok phases (events ++ more) q f in
    IfOk-at_ok (λ r. p.attempt ≤ r.attempt) whole (kept_by_run phases (λ r. p.attempt ≤ r.attempt) (λ r event h. higher phases p.attempt r event h) (Ok p) more (omega arith))

-- ---- the number of phases

left_capped : (phases : ℕ) (p : Progress) → is_phase_left (min phases greatest_phases) p ≡ is_phase_left phases p
left_capped phases p = capped phases p.next
  where
    capped : (m n : ℕ) → (nat_le n (min m greatest_phases) && nat_le n greatest_phases) ≡ (nat_le n m && nat_le n greatest_phases)
    capped m n = grind (arith, nat_tests)

to_capped : (phases : ℕ) (p : Progress) (word : Word) (to : Option BatchState) → turn_to (min phases greatest_phases) p word to ≡ turn_to phases p word to
to_capped phases p word None = refl
to_capped phases p word (Some to) = ap (λ b. refuse_event (is_done word && is_running p.state && b) PhasesLeft (refuse_event p.closed BatchClosed (refuse_event (has_no_attempt_left p word) TooMany (Ok (moved_to p word to))))) (left_capped phases p)

-- a number of phases above the greatest counts as that
pub turn_capped : (phases : ℕ) (p : Progress) (event : Event) → turn (min phases greatest_phases) p event ≡ turn phases p event
unfolding turn_moved turn_phase_done
turn_capped phases p (Moved word) = to_capped phases p word (next_state_of p.state word)
turn_capped phases p (PhaseDone number) = ap (λ b. refuse_event (not (number == p.next && b)) NotNextPhase (refuse_event p.closed BatchClosed (refuse_event (not (is_running p.state)) WrongState (Ok (record { state = p.state; attempt = p.attempt; next = p.next + 1; closed = p.closed }))))) (left_capped phases p)
turn_capped phases p Closed = refl

then_capped : (phases : ℕ) (r : Result Progress Refusal) (event : Event) → then_turn (min phases greatest_phases) r event ≡ then_turn phases r event
then_capped phases (Ok p) event = turn_capped phases p event
then_capped phases (Err refusal) event = refl

pub run_capped : (phases : ℕ) (events : List Event) → run_of (min phases greatest_phases) events ≡ run_of phases events
unfolding run_of
run_capped phases events = λ i. fold (λ r e. then_capped phases r e i) (Ok opening_progress) events

pub after_capped : (phases : ℕ) (events : List Event) → progress_after (min phases greatest_phases) events ≡ progress_after phases events
unfolding progress_after
after_capped phases events = λ i. fold (λ p e. result_unwrap_or (turn_capped phases p e i) p) opening_progress events
