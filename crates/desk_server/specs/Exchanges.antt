-- Requests that came in on connections, what they were answered, and what a desk has done then.
use Rattle.std.specs.Prelude.{⊤, ◌≡◌, ◌≢◌, ◌≤◌, ◌+◌, ◌⊎◌, ℕ, Bool, true, false, List, [], ◌∷◌, ◌++◌, length, take, Option, Some, None, Result, Ok, Err}
use Rattle.std.specs.List.{AllByRecursion, slice_get}
use Rattle.sqlite.specs.Held.{state}
use Rattle.sqlite.specs.State.{HasCleanDisk}
use Rattle.sqlite_trees.specs.declared.store.Store.{Ghosts}
use Rattle.plant_base.specs.{State, newest_schema}
use Rattle.plant_keeper.specs.{States}
use Rattle.plant_desk_store.specs.{Represents, HasCrashStates, Desk}
use Rattle.plant_questions.specs.{DeskFault}
use Rattle.plant_questions.specs.declared.reply.DeskFault.TheVariants as fault
use Rattle.plant_text.specs.{RepresentsDurably, RepresentsEither, after}
use Rattle.plant_http_requests.specs.{HasCome, Now, Terms}
use Rattle.plant_http_requests.specs.declared.progress.RequestProgress.TheVariants as progress
use Rattle.plant_http.specs.{Out, dated, entry_of, fault_out, is_silent}
use Rattle.plant_http.specs.Answers.{answer_bytes, out_of}
use Rattle.plant_http.specs.Serving.{may_fail}
use Rattle.desk_server.specs.Traffic.{Traffic}
use Rattle.desk_server.specs.Serving.{Asked}
use Rattle.desk_server.specs.declared.connection.Connection.{Connection}
use Rattle.desk_server.specs.declared.fault.ServingFault.{ServingFault}
use Rattle.desk_server.specs.declared.connection.Stage.{Stage}
use Rattle.desk_server.specs.declared.connection.Stage.TheVariants as stage
use Rattle.desk_server.specs.declared.receiving.Received.{Received}
use Rattle.desk_server.specs.declared.receiving.Received.TheVariants as received
use Rattle.desk_server.specs.declared.reply.Reply.{Reply}

-- ---- exchanges

-- A request that came in on the connection of this number, judged by these terms and what was known before its first byte, and its answer (RFC 9110,
-- section 3.4).
pub record Exchange (terms : Terms) : Type 0 where
  pub number : ℕ
  pub asked : Asked terms
  pub out : Out

-- the bytes of its answer
abbrev pub text_of : {terms : Terms} → Exchange terms → List ℕ
text_of {terms} e = answer_bytes (dated (record terms { now = e.asked.now })) (is_silent e.asked.task) e.out

-- none of the exchanges is of the connection of this number
abbrev pub Lacks : {terms : Terms} → ℕ → List (Exchange terms) → Type 0
Lacks {terms} n journal = AllByRecursion (λ (e : Exchange terms). e.number ≢ n) journal

-- In the first state its answer is the definitions', and the second is the state after its task; or a fault is answered to a task that may
-- have one, and the state stays.
abbrev pub Leads : {terms : Terms} → ℕ → State → Exchange terms → State → Type 0
Leads k s e t = ((e.out ≡ out_of k s e.asked.task) × (t ≡ after s (entry_of s e.asked.task)))
    ⊎ ((f : DeskFault) × (may_fail e.asked.task ≡ true) × (e.out ≡ fault_out f) × (t ≡ s))

-- The exchanges, the newest first, lead from the first state to the second, one at most of each connection.
abbrev pub IsJournal : {terms : Terms} → ℕ → State → List (Exchange terms) → State → Type 0
IsJournal k s [] t = t ≡ s
IsJournal k s (e ∷ before) t = (mid : State) × IsJournal k s before mid × Lacks e.number before × Leads k mid e t

-- A keeper that represented s has made these exchanges. It represents where they lead, and a stop leaves that state and no other. Where it
-- is shut, a fault of its store came at the last one and is its answer: a stop leaves the state before its task or the state after it.
abbrev pub HasMade : (terms : Terms) → ℕ → State → List (Exchange terms) → States → Bool → (States → Type 0) → Type 0
HasMade terms k s journal represents false crash_states = (t : State) × IsJournal k s journal t × RepresentsDurably represents crash_states t
HasMade terms k s [] represents true crash_states = ⊥
HasMade terms k s (last ∷ before) represents true crash_states =
    (t : State) × IsJournal k s before t × Lacks last.number before × (last.out ≡ fault_out fault.Store)
    × RepresentsEither represents crash_states t (entry_of t last.asked.task)

-- the same of a desk over a store
abbrev pub HasDeskMade : {S : Type 0} (g : Ghosts S) (terms : Terms) → State → List (Exchange terms) → Desk S g → Type 0
HasDeskMade {S} g terms s journal desk =
    HasMade terms newest_schema s journal (Represents (state g desk.connection) desk.is_shut) desk.is_shut (λ states. HasCrashStates (state g desk.connection) states)

-- ---- exchanges and connections

-- the second begins with the first
abbrev pub IsBeginning : List ℕ → List ℕ → Type 0
IsBeginning front whole = (rest : List ℕ) × (whole ≡ front ++ rest)

-- these bytes of a connection were served once they were a whole request, or its client had ended its side
abbrev pub HasComeOn : Terms → Now → List ℕ → Traffic → Type 0
HasComeOn terms now input c = HasCome (record terms { now = now }) input progress.Whole ⊎ (c.has_ended ≡ true)

-- The exchange is of one of these connections: its input is what was first received on that, and what was handed over to that is its answer,
-- as far as it was.
abbrev pub IsExchangedOn : {terms : Terms} → List Traffic → Exchange terms → Type 0
IsExchangedOn {terms} all e = (c : Traffic) × (slice_get all e.number ≡ Some c) × IsBeginning e.asked.input c.received
    × HasComeOn terms e.asked.now e.asked.input c × IsBeginning c.sent (text_of e)

-- Each exchange is of one of these connections, and to one that has no exchange nothing was handed over.
pub record AreExchangedOn {terms : Terms} (all : List Traffic) (journal : List (Exchange terms)) : Type 0 where
  pub each : AllByRecursion (IsExchangedOn all) journal
  pub silent : (n : ℕ) (c : Traffic) → slice_get all n ≡ Some c → Lacks n journal → c.sent ≡ []

-- Over a transport that shows what passes, and over which nothing had passed, an open desk has made at most so many exchanges, of as many
-- connections: of each connection the request that was received on it was judged and done, once, and all that was handed over to it is
-- the answer in the state in which it was done, or the beginning of it.
abbrev pub ServesOver : {S : Type 0} (g : Ghosts S) → Terms → ℕ → Option (List Traffic) → Option (List Traffic) → Desk S g → Desk S g → Type 0
ServesOver g terms most shown shows old new =
    HasCleanDisk (state g new.connection) → shown ≡ Some [] → (s : State) → Represents (state g old.connection) old.is_shut s
    → (all : List Traffic) × (shows ≡ Some all) × (journal : List (Exchange terms)) × (length journal ≤ most)
    × HasDeskMade g terms s journal new × AreExchangedOn all journal

-- ---- connections that are there

abbrev pub AreApart : List Connection → Type 0
AreApart [] = ⊤
AreApart (c ∷ others) = AllByRecursion (λ (d : Connection). d.number ≢ c.number) others × AreApart others

-- how far a connection has come: its request isn't served, and is what was received; or its answer is on its way, and what was handed over is
-- the front of it
abbrev pub IsAt : {terms : Terms} → List (Exchange terms) → Traffic → Connection → Stage → Type 0
IsAt journal shown c stage.Silent = (shown.received ≡ c.request.items) × (shown.sent ≡ []) × Lacks c.number journal
IsAt journal shown c (stage.Reading first reads) = (shown.received ≡ c.request.items) × (shown.sent ≡ []) × Lacks c.number journal
IsAt {terms} journal shown c (stage.Writing status) =
    (shown.sent ≡ take c.handed c.answer.items) × (Lacks c.number journal → ⊥)
    × AllByRecursion (λ (e : Exchange terms). e.number ≡ c.number → text_of e ≡ c.answer.items) journal
IsAt journal shown c (stage.Ending pieces) = ⊤

abbrev pub IsHeld : {terms : Terms} → List Traffic → List (Exchange terms) → Connection → Type 0
IsHeld all journal c = (shown : Traffic) × (slice_get all c.number ≡ Some shown) × IsAt journal shown c c.stage

-- these connections are each as far as the transport shows and the exchanges say
pub record AreHeld {terms : Terms} (all : List Traffic) (held : List Connection) (journal : List (Exchange terms)) : Type 0 where
  pub apart : AreApart held
  pub each : AllByRecursion (IsHeld all journal) held
  pub exchanged : AreExchangedOn all journal

-- no exchange was made, and what the transport shows now fits the second connections as it fitted the first
abbrev pub KeepsHeld : Terms → Option (List Traffic) → List Connection → Option (List Traffic) → List Connection → Type 0
KeepsHeld terms old held new kept = (all : List Traffic) (journal : List (Exchange terms)) → old ≡ Some all → AreHeld all held journal
    → (now : List Traffic) × (new ≡ Some now) × AreHeld now kept journal

-- the same where at most so many exchanges were made by a desk
abbrev pub GoesOn : {S : Type 0} (g : Ghosts S) → Terms → ℕ → Option (List Traffic) → List Connection → Desk S g → Option (List Traffic) → List Connection → Desk S g → Type 0
GoesOn g terms most old held before new kept now = HasCleanDisk (state g now.connection)
    → (all : List Traffic) (journal : List (Exchange terms)) (s : State) → old ≡ Some all → AreHeld all held journal → HasDeskMade g terms s journal before
    → (shows : List Traffic) × (new ≡ Some shows) × (more : List (Exchange terms)) × AreHeld shows kept more × HasDeskMade g terms s more now
    × (length more ≤ length journal + most)

-- how many exchanges a step says that it made at most: one where a fault ended it
abbrev pub made_by : Result ℕ ServingFault → ℕ
made_by (Ok done) = done
made_by (Err f) = 1

-- the second connections are as far as the first, whatever the transport shows and the exchanges say
abbrev pub StaysHeld : List Connection → List Connection → Type 0
StaysHeld held kept = (terms : Terms) (all : List Traffic) (journal : List (Exchange terms)) → AreHeld all held journal → AreHeld all kept journal

-- ---- one connection

abbrev pub IsUnserved : Stage → Type 0
IsUnserved stage.Silent = ⊤
IsUnserved (stage.Reading first reads) = ⊤
IsUnserved (stage.Writing status) = ⊥
IsUnserved (stage.Ending pieces) = ⊥

abbrev pub IsWriting : Stage → Type 0
IsWriting stage.Silent = ⊥
IsWriting (stage.Reading first reads) = ⊥
IsWriting (stage.Writing status) = ⊤
IsWriting (stage.Ending pieces) = ⊥

-- its bytes are a whole request, or its client has ended its side
abbrev pub MayBeServed : Terms → List Traffic → Connection → Type 0
MayBeServed terms all c = (shown : Traffic) × (slice_get all c.number ≡ Some shown) × HasComeOn terms c.now c.request.items shown

-- what a read has left of a connection, beside others
abbrev pub IsLeftBy : {terms : Terms} → Received → List Traffic → Connection → List Connection → List (Exchange terms) → Type 0
IsLeftBy {terms} received.Whole all c others journal = AreHeld all (c ∷ others) journal × IsUnserved c.stage × MayBeServed terms all c
IsLeftBy {terms} received.Ended all c others journal = AreHeld all (c ∷ others) journal × IsUnserved c.stage × MayBeServed terms all c
IsLeftBy received.Lacks all c others journal = AreHeld all (c ∷ others) journal
IsLeftBy received.Broken all c others journal = AreHeld all others journal

abbrev pub ReadsOn : Terms → Option (List Traffic) → Connection → Option (List Traffic) → Connection → Received → Type 0
ReadsOn terms old before new after received = (all : List Traffic) (others : List Connection) (journal : List (Exchange terms)) → old ≡ Some all
    → AreHeld all (before ∷ others) journal → IsUnserved before.stage
    → (now : List Traffic) × (new ≡ Some now) × IsLeftBy received now after others journal

-- `GoesOn`, of a connection that is served, with one exchange
abbrev pub GoesOnServed : {S : Type 0} (g : Ghosts S) → Terms → Option (List Traffic) → Connection → List Connection → Desk S g → Option (List Traffic) → List Connection → Desk S g → Type 0
GoesOnServed g terms old c others before new kept now = HasCleanDisk (state g now.connection)
    → (all : List Traffic) (journal : List (Exchange terms)) (s : State) → old ≡ Some all → AreHeld all (c ∷ others) journal → IsUnserved c.stage
    → MayBeServed terms all c → HasDeskMade g terms s journal before
    → (shows : List Traffic) × (new ≡ Some shows) × (more : List (Exchange terms)) × AreHeld shows kept more × HasDeskMade g terms s more now
    × (length more ≤ length journal + 1)

-- A request of the connection of this number, with these bytes and what was known, was served by a keeper that had made these exchanges: it made one more,
-- whose answer is the text that came back, if one did; or none came back, and the keeper wasn't asked.
abbrev pub MakesOne : (terms : Terms) → Now → ℕ → List ℕ → ℕ → State → List (Exchange terms) → States → Bool → (States → Type 0) → Option Reply → Type 0
MakesOne terms now n request k s journal represents shut crash_states reply =
    ((reply ≡ None) × HasMade terms k s journal represents shut crash_states)
    ⊎ ((e : Exchange terms) × (e.number ≡ n) × (e.asked.now ≡ now) × (e.asked.input ≡ request)
    × HasMade terms k s (e ∷ journal) represents shut crash_states
    × ((r : Reply) → reply ≡ Some r → text_of e ≡ r.text.items))

abbrev pub reply_by : Connection → Stage → Option Reply
reply_by c stage.Silent = None
reply_by c (stage.Reading first reads) = None
reply_by c (stage.Writing status) = Some (record { status = status; text = c.answer })
reply_by c (stage.Ending pieces) = None

-- the answer that a connection has now begun to be handed over, where it has
abbrev pub reply_of : Bool → Connection → Option Reply
reply_of true c = reply_by c c.stage
reply_of false c = None

-- its answer is on its way, and nothing of it was handed over
abbrev pub BeginsToAnswer : Connection → Type 0
BeginsToAnswer c = ((status : ℕ) × (c.stage ≡ stage.Writing status)) × (c.handed ≡ 0)
