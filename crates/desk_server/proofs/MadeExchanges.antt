-- A request that was served is one exchange more, and steps that keep connections follow on each other.
use Rattle.std.specs.Prelude.{IfOk}
use Rattle.std.proofs.Common.{◌≡◌, ◌+◌, ◌-◌, ◌≤◌, ℕ, Bool, true, false, List, [], ◌∷◌, Option, Some, None, Result, Ok, Err, refl, subst, sym, inl, inr, arith}
use Rattle.sqlite.specs.Held.{state}
use Rattle.sqlite.specs.State.{HasCleanDisk}
use Rattle.sqlite_trees.specs.declared.store.Store.{Ghosts}
use Rattle.plant_base.specs.{Agrees, State, newest_schema}
use Rattle.plant_keeper.specs.{States}
use Rattle.plant_desk_store.specs.{Represents, HasCrashStates, Desk}
use Rattle.plant_questions.specs.{DeskFault}
use Rattle.plant_questions.specs.declared.reply.DeskFault.TheVariants.{Store, Memory, Shut}
use Rattle.plant_text.specs.{RepresentsDurably, Entry, nothing, bad, command, question, check, after, CrashStatesOfFault, CrashStatesOfStoreFault}
use Rattle.plant_text.proofs.RunCrashStates.{CrashStateIsOwn}
use Rattle.plant_http_requests.specs.{Now, Terms}
use Rattle.plant_http.specs.{entry_of, fault_out, FailsAt, Performs, Serves, ServeFault, Served}
use Rattle.plant_http.proofs.ConditionPerforms.{command_at, fails_may}
use Rattle.plant_http.specs.declared.serve.Served.TheVariants.{Answered, Nothing}
use Rattle.plant_http.specs.declared.serve.ServeFault.TheVariants as end
use Rattle.desk_server.specs.Traffic.{Traffic}
use Rattle.desk_server.specs.Exchanges.{AreHeld, Exchange, GoesOn, HasDeskMade, HasMade, IsJournal, KeepsHeld, Lacks, MakesOne, ServesOver, StaysHeld, made_by}
use Rattle.desk_server.specs.Serving.{status_of}
use Rattle.desk_server.specs.declared.connection.Connection.{Connection}
use Rattle.desk_server.specs.declared.fault.ServingFault.{ServingFault}
use Rattle.desk_server.specs.declared.reply.Reply.{Reply}

-- ---- one request

pub open_made : (terms : Terms) (k : ℕ) (s t : State) (journal : List (Exchange terms)) (represents : States) (shut : Bool) (crash_states : States → Type 0) → shut ≡ false → IsJournal k s journal t
    → RepresentsDurably represents crash_states t → HasMade terms k s journal represents shut crash_states
open_made terms k s t journal represents false crash_states is_live leads alone = (t, leads, alone)
open_made terms k s t journal represents true crash_states is_live leads alone = absurd (cc)

pub made_open : (terms : Terms) (k : ℕ) (s : State) (journal : List (Exchange terms)) (represents : States) (shut : Bool) (crash_states : States → Type 0) → shut ≡ false
    → HasMade terms k s journal represents shut crash_states → (t : State) × IsJournal k s journal t × RepresentsDurably represents crash_states t
made_open terms k s journal represents false crash_states is_live made = made
made_open terms k s journal represents true crash_states is_live made = absurd (cc)

-- a fault of the store at a task, or at the question for the number before it, that was this to the keeper
store_made : (terms : Terms) (k : ℕ) (s t : State) (journal : List (Exchange terms)) (x : Exchange terms) (e : Entry) → FailsAt t x.asked.task e → x.out ≡ fault_out Store
    → (represents : States) (shut : Bool) (crash_states : States → Type 0) → CrashStateIsOwn represents shut crash_states → IsJournal k s journal t → Lacks x.number journal
    → represents t → CrashStatesOfStoreFault t e shut crash_states → HasMade terms k s (x ∷ journal) represents shut crash_states
store_made terms k s t journal x nothing is out represents shut crash_states law leads lacks same left = absurd left
store_made terms k s t journal x bad is out represents shut crash_states law leads lacks same left = absurd left
store_made terms k s t journal x (command c) is out represents true crash_states law leads lacks same (closed, either) = (t, leads, lacks, out, (same, rw (command_at t x.asked.task c is) either))
store_made terms k s t journal x (command c) is out represents false crash_states law leads lacks same (closed, either) = absurd (cc)
store_made terms k s t journal x (question q) is out represents shut crash_states law leads lacks same is_live =
    open_made terms k s t (x ∷ journal) represents shut crash_states is_live (t, leads, lacks, inr (Store, fails_may t x.asked.task (question q) is, out, refl)) (same, law is_live t same)
store_made terms k s t journal x (check c) is out represents shut crash_states law leads lacks same (is_command, is_live) =
    open_made terms k s t (x ∷ journal) represents shut crash_states is_live (t, leads, lacks, inr (Store, fails_may t x.asked.task (check c) is, out, refl)) (same, law is_live t same)

fault_made : (terms : Terms) (k : ℕ) (s t : State) (journal : List (Exchange terms)) (x : Exchange terms) (f : DeskFault) (e : Entry) → FailsAt t x.asked.task e → x.out ≡ fault_out f
    → (represents : States) (shut : Bool) (crash_states : States → Type 0) → CrashStateIsOwn represents shut crash_states → IsJournal k s journal t → Lacks x.number journal
    → CrashStatesOfFault f t e represents shut crash_states → HasMade terms k s (x ∷ journal) represents shut crash_states
fault_made terms k s t journal x Store e is out represents shut crash_states law leads lacks (same, left) =
    store_made terms k s t journal x e is out represents shut crash_states law leads lacks same left
fault_made terms k s t journal x Memory e is out represents shut crash_states law leads lacks (same, is_live) =
    open_made terms k s t (x ∷ journal) represents shut crash_states is_live (t, leads, lacks, inr (Memory, fails_may t x.asked.task e is, out, refl)) (same, law is_live t same)
fault_made terms k s t journal x Shut e is out represents shut crash_states law leads lacks left = absurd left

task_made : (terms : Terms) (k : ℕ) (s t : State) (journal : List (Exchange terms)) (x : Exchange terms) (represents : States) (shut : Bool) (crash_states : States → Type 0)
    → CrashStateIsOwn represents shut crash_states → IsJournal k s journal t → Lacks x.number journal → Performs k t x.asked.task x.out represents shut crash_states
    → HasMade terms k s (x ∷ journal) represents shut crash_states
task_made terms k s t journal x represents shut crash_states law leads lacks (inl (is, alone, is_live)) =
    open_made terms k s (after t (entry_of t x.asked.task)) (x ∷ journal) represents shut crash_states is_live (t, leads, lacks, inl (is, refl)) alone
task_made terms k s t journal x represents shut crash_states law leads lacks (inr (f, e, at, is, left, at_fault)) =
    fault_made terms k s t journal x f e at is represents shut crash_states law leads lacks left

-- the answer that came back, where one did, is what was written
abbrev pub ComesBack : Option Reply → Option (List ℕ) → Result Served ServeFault → Type 0
ComesBack reply written (Ok (Answered status)) = (r : Reply) → reply ≡ Some r → written ≡ Some r.text.items
ComesBack reply written (Ok Nothing) = reply ≡ None
ComesBack reply written (Err f) = reply ≡ None

pub nothing_back : (written : Option (List ℕ)) (r : Result Served ServeFault) → ComesBack None written r
nothing_back written (Ok (Answered status)) = λ r back. absurd (cc)
nothing_back written (Ok Nothing) = refl
nothing_back written (Err f) = refl

pub text_back : (p : Reply) (written : Option (List ℕ)) (r : Result Served ServeFault) → status_of r ≡ Some p.status → written ≡ Some p.text.items → ComesBack (Some p) written r
text_back p written (Ok (Answered status)) is text = λ q back. cc
text_back p written (Ok Nothing) is text = absurd (cc)
text_back p written (Err f) is text = absurd (cc)

untouched : (terms : Terms) (now : Now) (n : ℕ) (request : List ℕ) (k : ℕ) (s t : State) (journal : List (Exchange terms)) (represents : States) (shut : Bool) (crash_states : States → Type 0)
    (reply : Option Reply) → reply ≡ None → shut ≡ false → IsJournal k s journal t → RepresentsDurably represents crash_states t
    → MakesOne terms now n request k s journal represents shut crash_states reply
untouched terms now n request k s t journal represents shut crash_states reply none is_live leads alone =
    inl (none, open_made terms k s t journal represents shut crash_states is_live leads alone)

pub one_made : (terms : Terms) (now : Now) (n : ℕ) (request whole : List ℕ) (k : ℕ) (s t : State) (journal : List (Exchange terms)) (before : List ℕ) (written : Option (List ℕ))
    (represents : States) (shut : Bool) (crash_states : States → Type 0) (r : Result Served ServeFault) (reply : Option Reply)
    → CrashStateIsOwn represents shut crash_states → Agrees (Some request) whole → before ≡ [] → ComesBack reply written r → IsJournal k s journal t → Lacks n journal
    → Serves (record terms { now = now }) k t whole (Some before) written represents shut crash_states r
    → MakesOne terms now n request k s journal represents shut crash_states reply
one_made terms now n request whole k s t journal before written represents shut crash_states (Ok Nothing) reply law agrees empty comes leads lacks (none, h) =
    untouched terms now n request k s t journal represents shut crash_states reply comes h.is_live leads h.state
one_made terms now n request whole k s t journal before (Some text) represents shut crash_states (Ok (Answered code)) reply law agrees empty comes leads lacks (task, asks, out, did, (is, wrote)) =
    let x : Exchange terms = record { number = n; asked = record { now = now; input = whole; task = task; asks = asks }; out = out } in
    inr (x, refl, refl, agrees, task_made terms k s t journal x represents shut crash_states law leads lacks did, (λ p back. let it = comes p back in cc))
one_made terms now n request whole k s t journal before None represents shut crash_states (Ok (Answered code)) reply law agrees empty comes leads lacks (task, asks, out, did, (is, wrote)) = absurd wrote
one_made terms now n request whole k s t journal before written represents shut crash_states (Err end.Write) reply law agrees empty comes leads lacks (task, asks, out, did, wrote) =
    let x : Exchange terms = record { number = n; asked = record { now = now; input = whole; task = task; asks = asks }; out = out } in
    inr (x, refl, refl, agrees, task_made terms k s t journal x represents shut crash_states law leads lacks did, (λ p back. absurd (cc)))
one_made terms now n request whole k s t journal before written represents shut crash_states (Err end.Read) reply law agrees empty comes leads lacks h =
    untouched terms now n request k s t journal represents shut crash_states reply comes h.is_live leads h.state
one_made terms now n request whole k s t journal before written represents shut crash_states (Err end.Endless) reply law agrees empty comes leads lacks (h, many) =
    untouched terms now n request k s t journal represents shut crash_states reply comes h.is_live leads h.state
one_made terms now n request whole k s t journal before written represents shut crash_states (Err end.Memory) reply law agrees empty comes leads lacks h =
    untouched terms now n request k s t journal represents shut crash_states reply comes h.is_live leads h.state

-- ---- steps

pub made_few : (r : Result ℕ ServingFault) → IfOk r (λ done. done ≤ 1) → made_by r ≤ 1
made_few (Ok done) few = few
made_few (Err f) few = omega arith

pub made_one : (r : Result ℕ ServingFault) → IfOk r (λ done. done ≡ 1) → 1 ≤ made_by r
made_one (Ok done) one = omega (arith, one)
made_one (Err f) one = omega arith

pub keeps_itself : (terms : Terms) (shown : Option (List Traffic)) (held : List Connection) → KeepsHeld terms shown held shown held
keeps_itself terms shown held = λ all journal at h. (all, at, h)

pub keeps_then : (terms : Terms) (a b c : Option (List Traffic)) (h k l : List Connection) → KeepsHeld terms a h b k → KeepsHeld terms b k c l → KeepsHeld terms a h c l
keeps_then terms a b c h k l first more = λ all journal at held. let (now, is, kept) = first all journal at held in more now journal is kept

pub stays_kept : (terms : Terms) (a b : Option (List Traffic)) (h k : List Connection) → b ≡ a → StaysHeld h k → KeepsHeld terms a h b k
stays_kept terms a b h k same stays = λ all journal at held. (all, cc, stays terms all journal held)

pub kept_on : {S : Type 0} (g : Ghosts S) (terms : Terms) (most : ℕ) (a b : Option (List Traffic)) (h k : List Connection) (desk : Desk S g) → KeepsHeld terms a h b k → GoesOn g terms most a h desk b k desk
kept_on g terms most a b h k desk keeps = λ clean all journal s at held made. let (now, is, kept) = keeps all journal at held in (now, is, journal, kept, made, omega arith)

-- so many exchanges and so many more, by a desk whose store was clean in between
pub goes_then : {S : Type 0} (g : Ghosts S) (terms : Terms) (n m most : ℕ) (a b c : Option (List Traffic)) (h k l : List Connection) (x y z : Desk S g) → n + m ≤ most
    → (HasCleanDisk (state g z.connection) → HasCleanDisk (state g y.connection)) → GoesOn g terms n a h x b k y → GoesOn g terms m b k y c l z → GoesOn g terms most a h x c l z
goes_then g terms n m most a b c h k l x y z room was first more = λ clean all journal s at held made.
    let (now, is, some, kept, did, few) = first (was clean) all journal s at held made in
    let (last, so, others, left, done, many) = more clean now some s is kept did in
    (last, so, others, left, done, omega (arith, room, few, many))

-- it has gone on at most so often
pub goes_fewer : {S : Type 0} (g : Ghosts S) (terms : Terms) (n most : ℕ) (a b : Option (List Traffic)) (h k : List Connection) (x y : Desk S g) → n ≤ most → GoesOn g terms n a h x b k y → GoesOn g terms most a h x b k y
goes_fewer g terms n most a b h k x y room goes = λ clean all journal s at held made.
    let (now, is, some, kept, did, few) = goes clean all journal s at held made in (now, is, some, kept, did, omega (arith, room, few))

-- a step of which so many were done, and what the system reported after it
pub goes_step : {S : Type 0} (g : Ghosts S) (terms : Terms) (count left done : ℕ) (a b c e : Option (List Traffic)) (h k l m n : List Connection) (x y z : Desk S g) → done ≤ left → left ≤ count
    → (HasCleanDisk (state g z.connection) → HasCleanDisk (state g y.connection)) → GoesOn g terms (count - left) a h x b k y → l ≡ k → GoesOn g terms done b l y c m z → e ≡ c → StaysHeld m n
    → GoesOn g terms (count - (left - done)) a h x e n z
goes_step g terms count left done a b c e h k l m n x y z few room was before same step shows stays =
    goes_then g terms (count - left) done (count - (left - done)) a b e h k n x y z (omega (arith, few, room)) was before
    (λ clean all journal s at held made.
    let (now, is, more, kept, did, many) = step clean all journal s at (subst (λ q. AreHeld all q journal) (sym same) held) made in
    (now, cc, more, stays terms now more kept, did, many))

-- ---- from no connection on

pub served_over : {S : Type 0} (g : Ghosts S) (terms : Terms) (most : ℕ) (a b : Option (List Traffic)) (kept : List Connection) (x y : Desk S g) → x.is_shut ≡ false
    → (HasCleanDisk (state g y.connection) → HasCleanDisk (state g x.connection)) → GoesOn g terms most a [] x b kept y → ServesOver g terms most a b x y
served_over g terms most a b kept x y is_live was goes = λ clean empty s represents.
    let nothing : AreHeld {terms = terms} [] [] [] = record { apart = tt; each = tt; exchanged = record { each = tt; silent = λ n c at none. absurd (cc) } } in
    let made : HasDeskMade g terms s [] x = open_made terms newest_schema s s [] (Represents (state g x.connection) x.is_shut) x.is_shut (λ states. HasCrashStates (state g x.connection) states) is_live refl
    (represents, represents.1 is_live) in
    let (now, is, journal, held, did, few) = goes clean [] [] s empty nothing made in
    (now, is, journal, omega (arith, few), did, held.exchanged)

-- where none was taken
pub unserved_over : {S : Type 0} (g : Ghosts S) (terms : Terms) (most : ℕ) (a : Option (List Traffic)) (x : Desk S g) → x.is_shut ≡ false → ServesOver g terms most a a x x
unserved_over g terms most a x is_live = λ clean empty s represents.
    let made : HasDeskMade g terms s [] x = open_made terms newest_schema s s [] (Represents (state g x.connection) x.is_shut) x.is_shut (λ states. HasCrashStates (state g x.connection) states) is_live refl
    (represents, represents.1 is_live) in
    ([], empty, [], omega arith, made, record { each = tt; silent = λ n c at none. absurd (cc) })
