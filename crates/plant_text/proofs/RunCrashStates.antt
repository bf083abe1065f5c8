-- What a stop after a run leaves, by the law of an open keeper that a stop leaves its state and no other.
use Rattle.std.proofs.Common.{◌≡◌, ℕ, List, Bool, false, Option, inl, inr}
use Rattle.plant_base.specs.{State}
use Rattle.plant_keeper.specs.{States}
use Rattle.plant_questions.specs.{DeskFault}
use Rattle.plant_questions.specs.declared.reply.DeskFault.TheVariants.{Store, Memory, Shut}
use Rattle.plant_text.specs.{Entry, nothing, bad, command, question, check, after, fold, CrashStatesOfFault, StopsAt, RunStopped, StoppedAmong, EndsWithin, CrashStatesAtFault, CrashStatesAtStop, CrashStatesAfterSome, CrashStatesAmong, CrashStatesOfRun}
use Rattle.plant_text.specs.declared.run.RunEnd.{RunEnd}
use Rattle.plant_text.specs.declared.run.RunEnd.TheVariants as E
use Rattle.plant_text.specs.declared.turns.TurnError.{TurnError}
use Rattle.plant_text.specs.declared.turns.TurnError.TheVariants as S

-- what `open_crash_state` says of a keeper that ended honest: while it is open, a stop leaves the state that it represents
abbrev pub CrashStateIsOwn : States → Bool → (States → Type 0) → Type 0
CrashStateIsOwn represents shut crash_states = shut ≡ false → (t : State) → represents t → crash_states (λ u. u ≡ t)

fault_crash_states : (f : DeskFault) (s : State) (e : Entry) (represents : States) (shut : Bool) (crash_states : States → Type 0) → CrashStateIsOwn represents shut crash_states
    → CrashStatesOfFault f s e represents shut crash_states → CrashStatesAtFault f represents crash_states s e
fault_crash_states Store s nothing represents shut crash_states law (same, none) = absurd none
fault_crash_states Store s bad represents shut crash_states law (same, none) = absurd none
fault_crash_states Store s (command c) represents shut crash_states law (same, (is_shut, either)) = inr (same, either)
fault_crash_states Store s (question q) represents shut crash_states law (same, is_open) = inl (same, law is_open s same)
fault_crash_states Store s (check c) represents shut crash_states law (same, (is_command, is_open)) = inl (same, law is_open s same)
fault_crash_states Memory s e represents shut crash_states law (same, is_open) = (same, law is_open s same)
fault_crash_states Shut s e represents shut crash_states law l = absurd l

-- want of memory leaves less than a store's fault may
write_error_crash_states : (f : DeskFault) (s : State) (e : Entry) (represents : States) (crash_states : States → Type 0) → CrashStatesAtFault f represents crash_states s e → CrashStatesAtFault Store represents crash_states s e
write_error_crash_states Store s e represents crash_states l = l
write_error_crash_states Memory s e represents crash_states l = inl l
write_error_crash_states Shut s e represents crash_states l = absurd l

stop_crash_states : (k : ℕ) (s : State) (e : Entry) (old new : Option (List ℕ)) (represents : States) (shut : Bool) (crash_states : States → Type 0) (stop : TurnError) → CrashStateIsOwn represents shut crash_states
    → StopsAt k s e old new represents shut crash_states stop → CrashStatesAtStop stop represents crash_states s e
stop_crash_states k s e old new represents shut crash_states S.Write law (text, inl (written, moved, is_open), prefix) = inl (moved, law is_open (after s e) moved)
stop_crash_states k s e old new represents shut crash_states S.Write law (text, inr (f, written, l), prefix) = inr (write_error_crash_states f s e represents crash_states (fault_crash_states f s e represents shut crash_states law l))
stop_crash_states k s e old new represents shut crash_states (S.Fault f) law (written, l) = fault_crash_states f s e represents shut crash_states law l

stopped_crash_states : (k : ℕ) (s : State) (es : List Entry) (old new : Option (List ℕ)) (represents : States) (shut : Bool) (crash_states : States → Type 0) (stop : TurnError) → CrashStateIsOwn represents shut crash_states
    → RunStopped k s es old new represents shut crash_states stop → CrashStatesAfterSome s es represents crash_states stop
stopped_crash_states k s es old new represents shut crash_states stop law x = record {
  answered = x.answered;
  next = x.next;
  more = x.more;
  cut = x.cut;
  left = stop_crash_states k (fold s x.answered) x.next x.between new represents shut crash_states stop law x.stops;
}

among_leaves : (k : ℕ) (s : State) (bytes : List ℕ) (left old new : Option (List ℕ)) (represents : States) (shut : Bool) (crash_states : States → Type 0) (stop : TurnError) → CrashStateIsOwn represents shut crash_states
    → StoppedAmong k s bytes left old new represents shut crash_states stop → CrashStatesAmong s bytes left represents crash_states stop
among_leaves k s bytes left old new represents shut crash_states stop law (inl (at_end, x)) = inl (at_end, stopped_crash_states k s _ old new represents shut crash_states stop law x)
among_leaves k s bytes left old new represents shut crash_states stop law (inr x) = inr (stopped_crash_states k s _ old new represents shut crash_states stop law x)

-- a stop after a run leaves a state that the run's contract names, and no other
pub run_crash_states : (most k : ℕ) (s : State) (bytes : List ℕ) (left old new : Option (List ℕ)) (represents : States) (shut : Bool) (crash_states : States → Type 0) (end : RunEnd) → CrashStateIsOwn represents shut crash_states
    → EndsWithin most k s bytes left old new represents shut crash_states end → CrashStatesOfRun s bytes left represents crash_states end
run_crash_states most k s bytes left old new represents shut crash_states (E.Done refused) law (at_end, reported, is_open) = (reported.state, law is_open _ reported.state)
run_crash_states most k s bytes left old new represents shut crash_states E.Read law (refused, reported, is_open) = (reported.state, law is_open _ reported.state)
run_crash_states most k s bytes left old new represents shut crash_states E.Endless law (refused, reported, is_open, many) = (reported.state, law is_open _ reported.state)
run_crash_states most k s bytes left old new represents shut crash_states E.Write law x = among_leaves k s bytes left old new represents shut crash_states S.Write law x
run_crash_states most k s bytes left old new represents shut crash_states (E.Fault f) law x = among_leaves k s bytes left old new represents shut crash_states (S.Fault f) law x
