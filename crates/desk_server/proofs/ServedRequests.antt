-- From one served request to many.
use Rattle.std.proofs.Common.{◌≡◌, ℕ, zero, suc, ◌+◌, ◌-◌, ◌≤◌, Bool, true, false, List, [], ◌∷◌, ◌++◌, length, Option, Some, Result, Ok, Err, refl, subst, inl, inr, arith, length-append}
use Rattle.sqlite.specs.Held.{state}
use Rattle.sqlite_trees.specs.declared.store.Store.{Ghosts}
use Rattle.plant_desk_store.specs.{Represents, HasCrashStates, Desk}
use Rattle.plant_base.specs.{Agrees, State}
use Rattle.plant_keeper.specs.{States}
use Rattle.plant_keeper.proofs.SameDesk.{same_after}
use Rattle.plant_questions.specs.{DeskFault}
use Rattle.plant_questions.specs.declared.reply.DeskFault.TheVariants.{Store, Memory, Shut}
use Rattle.plant_text.specs.{RepresentsDurably, Entry, nothing, bad, command, question, check, after, CrashStatesOfFault, CrashStatesOfStoreFault}
use Rattle.plant_text.proofs.RunCrashStates.{CrashStateIsOwn}
use Rattle.plant_http_requests.specs.{Now, Terms}
use Rattle.plant_http.specs.{Out, entry_of, FailsAt, Performs, Serves, ServeFault, Served}
use Rattle.plant_http.proofs.ConditionPerforms.{command_at}
use Rattle.plant_http.specs.declared.serve.Served.TheVariants.{Answered, Nothing}
use Rattle.plant_http.specs.declared.serve.ServeFault.TheVariants as end
use Rattle.desk_server.specs.{Asked, after_tasks, HasServed, ServesAtMost, IsSameStore}
use Rattle.desk_server.specs.Serving.{status_of}

-- ---- one connection

pub open_served : (terms : Terms) (most : ℕ) (s : State) (represents : States) (shut : Bool) (crash_states : States → Type 0) (tasks : List (Asked terms)) → shut ≡ false → length tasks ≤ most
    → RepresentsDurably represents crash_states (after_tasks s tasks) → HasServed terms most s represents shut crash_states
open_served terms most s represents false crash_states tasks is_live few alone = (tasks, few, alone)
open_served terms most s represents true crash_states tasks is_live few alone = absurd (cc)

-- a fault of the store at a task, or at the question for the number before it, that was this to the keeper
store_served : (terms : Terms) (s : State) (a : Asked terms) (e : Entry) → FailsAt s a.task e → (represents : States) (shut : Bool) (crash_states : States → Type 0) → CrashStateIsOwn represents shut crash_states
    → represents s → CrashStatesOfStoreFault s e shut crash_states → HasServed terms 1 s represents shut crash_states
store_served terms s a nothing is represents shut crash_states law same left = absurd left
store_served terms s a bad is represents shut crash_states law same left = absurd left
store_served terms s a (command c) is represents true crash_states law same (closed, either) = ([], a, omega arith, (same, rw (command_at s a.task c is) either))
store_served terms s a (command c) is represents false crash_states law same (closed, either) = absurd (cc)
store_served terms s a (question q) is represents shut crash_states law same is_live = open_served terms 1 s represents shut crash_states [] is_live (omega arith) (same, law is_live s same)
store_served terms s a (check c) is represents shut crash_states law same (is_command, is_live) = open_served terms 1 s represents shut crash_states [] is_live (omega arith) (same, law is_live s same)

fault_served : (terms : Terms) (f : DeskFault) (s : State) (a : Asked terms) (e : Entry) → FailsAt s a.task e → (represents : States) (shut : Bool) (crash_states : States → Type 0) → CrashStateIsOwn represents shut crash_states
    → CrashStatesOfFault f s e represents shut crash_states → HasServed terms 1 s represents shut crash_states
fault_served terms Store s a e is represents shut crash_states law (same, left) = store_served terms s a e is represents shut crash_states law same left
fault_served terms Memory s a e is represents shut crash_states law (same, is_live) = open_served terms 1 s represents shut crash_states [] is_live (omega arith) (same, law is_live s same)
fault_served terms Shut s a e is represents shut crash_states law left = absurd left

task_served : (terms : Terms) (k : ℕ) (s : State) (a : Asked terms) (out : Out) (represents : States) (shut : Bool) (crash_states : States → Type 0) → CrashStateIsOwn represents shut crash_states
    → Performs k s a.task out represents shut crash_states → HasServed terms 1 s represents shut crash_states
task_served terms k s a out represents shut crash_states law (inl (is, alone, is_live)) = open_served terms 1 s represents shut crash_states (a ∷ []) is_live (omega arith) alone
task_served terms k s a out represents shut crash_states law (inr (f, e, at, is, left, at_fault)) = fault_served terms f s a e at represents shut crash_states law left

pub one_served : (terms : Terms) (now : Now) (k : ℕ) (s : State) (whole : List ℕ) (old new : Option (List ℕ)) (represents : States) (shut : Bool) (crash_states : States → Type 0) (r : Result Served ServeFault)
    → CrashStateIsOwn represents shut crash_states → Serves (record terms { now = now }) k s whole old new represents shut crash_states r → HasServed terms 1 s represents shut crash_states
one_served terms now k s whole old new represents shut crash_states (Ok Nothing) law (none, h) = open_served terms 1 s represents shut crash_states [] h.is_live (omega arith) h.state
one_served terms now k s whole old new represents shut crash_states (Ok (Answered code)) law (task, asks, out, did, wrote) =
    task_served terms k s (record { now = now; input = whole; task = task; asks = asks }) out represents shut crash_states law did
one_served terms now k s whole old new represents shut crash_states (Err end.Write) law (task, asks, out, did, wrote) =
    task_served terms k s (record { now = now; input = whole; task = task; asks = asks }) out represents shut crash_states law did
one_served terms now k s whole old new represents shut crash_states (Err end.Read) law h = open_served terms 1 s represents shut crash_states [] h.is_live (omega arith) h.state
one_served terms now k s whole old new represents shut crash_states (Err end.Endless) law (h, many) = open_served terms 1 s represents shut crash_states [] h.is_live (omega arith) h.state
one_served terms now k s whole old new represents shut crash_states (Err end.Memory) law h = open_served terms 1 s represents shut crash_states [] h.is_live (omega arith) h.state

-- ---- its answer

answered_of : (r : Result Served ServeFault) (status : ℕ) → status_of r ≡ Some status → r ≡ Ok (Answered status)
answered_of (Ok (Answered code)) status h = cc
answered_of (Ok Nothing) status h = absurd (cc)
answered_of (Err f) status h = absurd (cc)

-- what was written where nothing was before is the answer of this status to the bytes that were known
pub one_answered : (terms : Terms) (k : ℕ) (s : State) (request whole : List ℕ) (before : List ℕ) (text : Option (List ℕ)) (represents : States) (shut : Bool) (crash_states : States → Type 0)
    (r : Result Served ServeFault) (status : ℕ) → Agrees (Some request) whole → before ≡ [] → status_of r ≡ Some status → Serves terms k s whole (Some before) text represents shut crash_states r
    → Serves terms k s request (Some []) text represents shut crash_states (Ok (Answered status))
one_answered terms k s request whole before text represents shut crash_states r status agrees empty answered h =
    subst (λ (w : List ℕ). Serves terms k s w (Some []) text represents shut crash_states (Ok (Answered status))) agrees
    (subst (λ (b : List ℕ). Serves terms k s whole (Some b) text represents shut crash_states (Ok (Answered status))) empty
    (subst (λ (e : Result Served ServeFault). Serves terms k s whole (Some before) text represents shut crash_states e) (answered_of r status answered) h))

-- ---- one connection more

fold_more : (terms : Terms) (tasks : List (Asked terms)) (s : State) (more : List (Asked terms)) → after_tasks s (tasks ++ more) ≡ after_tasks (after_tasks s tasks) more
fold_more terms [] s more = refl
fold_more terms (a ∷ tasks) s more = fold_more terms tasks (after s (entry_of s a.task)) more

pub more_served : (terms : Terms) (made n most : ℕ) (s : State) (tasks : List (Asked terms)) (represents : States) (shut : Bool) (crash_states : States → Type 0) → length tasks ≤ made → made + n ≤ most
    → HasServed terms n (after_tasks s tasks) represents shut crash_states → HasServed terms most s represents shut crash_states
more_served terms made n most s tasks represents false crash_states few room (more, one, alone) =
    (tasks ++ more, omega (arith, few, room, one, length-append tasks more), rw (fold_more terms tasks s more) alone)
more_served terms made n most s tasks represents true crash_states few room (more, last, one, either) =
    (tasks ++ more, last, omega (arith, few, room, one, length-append tasks more), rw (fold_more terms tasks s more) either)

-- so many and so many more, by a keeper that was open in between
pub then_served : (terms : Terms) (made n most : ℕ) (s : State) (represents now : States) (before shut : Bool) (crash_states left : States → Type 0) → before ≡ false → made + n ≤ most
    → HasServed terms made s represents before crash_states → ((t : State) → represents t → HasServed terms n t now shut left) → HasServed terms most s now shut left
then_served terms made n most s represents now false shut crash_states left is_live room (tasks, few, alone) one =
    more_served terms made n most s tasks now shut left few room (one (after_tasks s tasks) alone.0)
then_served terms made n most s represents now true shut crash_states left is_live room h one = absurd (cc)

fewer_served : (terms : Terms) (made most : ℕ) (s : State) (represents : States) (shut : Bool) (crash_states : States → Type 0) → made ≤ most → HasServed terms made s represents shut crash_states → HasServed terms most s represents shut crash_states
fewer_served terms made most s represents false crash_states room (tasks, few, alone) = (tasks, omega (arith, few, room), alone)
fewer_served terms made most s represents true crash_states room (tasks, last, few, either) = (tasks, last, omega (arith, few, room), either)

-- ---- the connections of a desk

pub desk_fewer : {S : Type 0} (g : Ghosts S) (terms : Terms) (made most : ℕ) (a b : Desk S g) → made ≤ most → ServesAtMost g terms made a b → ServesAtMost g terms most a b
desk_fewer g terms made most a b room first = λ clean s represented.
    fewer_served terms made most s (Represents (state g b.connection) b.is_shut) b.is_shut (λ states. HasCrashStates (state g b.connection) states) room (first clean s represented)

pub desk_more : {S : Type 0} (g : Ghosts S) (terms : Terms) (made n most : ℕ) (a b c : Desk S g) → b.is_shut ≡ false → made + n ≤ most → IsSameStore g b c → ServesAtMost g terms made a b
    → ServesAtMost g terms n b c → ServesAtMost g terms most a c
desk_more g terms made n most a b c is_live room same first more = λ clean s represented.
    then_served terms made n most s (Represents (state g b.connection) b.is_shut) (Represents (state g c.connection) c.is_shut) b.is_shut c.is_shut
    (λ states. HasCrashStates (state g b.connection) states) (λ states. HasCrashStates (state g c.connection) states) is_live room (first (same.honest clean) s represented) (λ t represents. more clean t represents)

-- ---- a desk that serves on

-- An open desk with so many connections left of so many: it is one and the same, and has served at most the others.
abbrev pub IsServing : {S : Type 0} (g : Ghosts S) → Terms → ℕ → ℕ → Desk S g → Desk S g → Type 0
IsServing g terms count left old new = IsSameStore g old new × (new.is_shut ≡ false) × (left ≤ count) × ServesAtMost g terms (count - left) old new

pub serving_at_most : {S : Type 0} (g : Ghosts S) (terms : Terms) (count left : ℕ) (a b : Desk S g) → IsServing g terms count left a b → ServesAtMost g terms count a b
serving_at_most g terms count left a b (same, is_live, within, served) = desk_fewer g terms (count - left) count a b (omega (arith, within)) served

-- it was asked nothing
pub serving_fewer : {S : Type 0} (g : Ghosts S) (terms : Terms) (count left done : ℕ) (a b : Desk S g) → IsServing g terms count left a b → done ≤ left → IsServing g terms count (left - done) a b
serving_fewer g terms count left done a b (same, is_live, within, served) room =
    (same, is_live, omega (arith, within), desk_fewer g terms (count - left) (count - (left - done)) a b (omega (arith, within, room)) served)

-- it has served one connection more, or a fault at that one has shut it
pub serving_one : {S : Type 0} (g : Ghosts S) (terms : Terms) (count left : ℕ) (a b c : Desk S g) → IsServing g terms count left a b → 1 ≤ left → IsSameStore g b c → ServesAtMost g terms 1 b c
    → IsSameStore g a c × ServesAtMost g terms (count - (left - 1)) a c
serving_one g terms count left a b c (same, is_live, within, served) room still one =
    (same_after _ _ _ _ _ _ same still, desk_more g terms (count - left) 1 (count - (left - 1)) a b c is_live (omega (arith, within, room)) still served one)

pub serving_more : {S : Type 0} (g : Ghosts S) (terms : Terms) (count left : ℕ) (a b c : Desk S g) → IsServing g terms count left a b → 1 ≤ left → IsSameStore g b c → ServesAtMost g terms 1 b c → c.is_shut ≡ false
    → IsServing g terms count (left - 1) a c
serving_more g terms count left a b c before room still one is_live =
    let more = serving_one g terms count left a b c before room still one in (more.0, is_live, omega (arith, before.2), more.1)

-- ---- a step

-- it was asked nothing at all
pub desk_unasked : {S : Type 0} (g : Ghosts S) (terms : Terms) (most : ℕ) (a : Desk S g) → a.is_shut ≡ false → ServesAtMost g terms most a a
desk_unasked g terms most a is_live = λ clean s represented.
    open_served terms most s (Represents (state g a.connection) a.is_shut) a.is_shut (λ states. HasCrashStates (state g a.connection) states) [] is_live (omega arith)
    (represented, represented.1 is_live)

-- a connection went on: it was served, or asked nothing
pub serving_step : {S : Type 0} (g : Ghosts S) (terms : Terms) (count left done : ℕ) (a b c : Desk S g) → IsServing g terms count left a b → 1 ≤ left → IsSameStore g b c → ServesAtMost g terms 1 b c
    → c.is_shut ≡ false → done ≤ 1 → (done ≡ 0 → c ≡ b) → IsServing g terms count (left - done) a c
serving_step g terms count left zero a b c before room still one is_live few unasked = rw (unasked refl) (serving_fewer g terms count left 0 a b before (omega arith))
serving_step g terms count left (suc zero) a b c before room still one is_live few unasked = serving_more g terms count left a b c before room still one is_live
serving_step g terms count left (suc (suc n)) a b c before room still one is_live few unasked = absurd (omega (arith, few))
