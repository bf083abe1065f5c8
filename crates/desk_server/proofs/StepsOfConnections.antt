-- Each step of a server keeps the connections that it has as far as the transport shows.
use Rattle.std.proofs.Common.{◌≡◌, ◌≢◌, ◌≤◌, ◌⊎◌, ℕ, Bool, true, false, List, [], ◌∷◌, ◌++◌, ◌<◌, length, take, drop, slice_index_or, Option, Some, None, Ok, refl, subst, sym, inl, inr, arith}
use Rattle.std.specs.List.{remove, slice_get}
use Rattle.std.proofs.lemmas.Option.{slice_get_read}
use Rattle.sqlite.specs.Held.{state}
use Rattle.sqlite.specs.State.{HasCleanDisk}
use Rattle.sqlite_trees.specs.declared.store.Store.{Ghosts}
use Rattle.plant_base.specs.{State, newest_schema}
use Rattle.plant_desk_store.specs.{Represents, HasCrashStates, Desk}
use Rattle.plant_http_requests.specs.{Terms}
use Rattle.desk_server.specs.Traffic.{Traffic, HasRead, TakesConnection, changed_at, no_traffic, with_end, with_received, with_sent}
use Rattle.desk_server.specs.Connection.{HandsOver, HasPassedOver, Receives}
use Rattle.desk_server.specs.Exchanges.{AreHeld, Exchange, GoesOn, GoesOnServed, HasDeskMade, IsUnserved, IsWriting, KeepsHeld, Lacks, MakesOne, ReadsOn, StaysHeld, reply_by, reply_of}
use Rattle.desk_server.specs.Queue.{marked, marked_at, waits_for, with_ready}
use Rattle.desk_server.specs.Receiving.{IsReceived}
use Rattle.desk_server.specs.declared.connection.Connection.{Connection}
use Rattle.desk_server.specs.declared.connection.Stage.{Stage}
use Rattle.desk_server.specs.declared.connection.Stage.TheVariants as stage
use Rattle.desk_server.specs.declared.transport.Piece.{Piece}
use Rattle.desk_server.specs.declared.transport.Piece.TheVariants as piece
use Rattle.desk_server.specs.declared.receiving.Received.{Received}
use Rattle.desk_server.specs.declared.receiving.Received.TheVariants as received
use Rattle.desk_server.specs.declared.reply.Reply.{Reply}
use Rattle.desk_server.proofs.HeldConnections.{added, added_traffic, alike, answering, dropped, ended_now, handed_more, now_ending, passed_end, passed_more, put_last, received_more, removed, served, taken_out, unserved_lacks}
use Rattle.desk_server.proofs.TrafficChanged.{changed_there}
use Rattle.desk_server.proofs.MadeExchanges.{keeps_then, kept_on}

-- ---- the queue

pub kept_out : (terms : Terms) (a b : Option (List Traffic)) (items : List Connection) (i : ℕ) (c : Connection) → b ≡ a → slice_get items i ≡ Some c → KeepsHeld terms a items b (c ∷ remove items i)
kept_out terms a b items i c same at = λ all journal is held. (all, cc, taken_out all items i c journal at held)

pub kept_closed : (terms : Terms) (a b : Option (List Traffic)) (c : Connection) (others : List Connection) → b ≡ a → KeepsHeld terms a (c ∷ others) b others
kept_closed terms a b c others same = λ all journal is held. (all, cc, dropped all c others journal held)

pub kept_last : (terms : Terms) (a b : Option (List Traffic)) (c : Connection) (others : List Connection) → b ≡ a → KeepsHeld terms a (c ∷ others) b (others ++ c ∷ [])
kept_last terms a b c others same = λ all journal is held. (all, cc, put_last all c others journal held)

pub kept_alike : (terms : Terms) (a b : Option (List Traffic)) (c d : Connection) (others : List Connection) → b ≡ a → d.number ≡ c.number → d.stage ≡ c.stage → d.request.items ≡ c.request.items
    → d.answer.items ≡ c.answer.items → d.handed ≡ c.handed → KeepsHeld terms a (c ∷ others) b (d ∷ others)
kept_alike terms a b c d others same n s r w h = λ all journal is held. (all, cc, alike all c d others journal n s r w h held)

pub kept_ending : (terms : Terms) (a b : Option (List Traffic)) (c d : Connection) (others : List Connection) (pieces : ℕ) → b ≡ a → d.stage ≡ stage.Ending pieces → d.number ≡ c.number
    → KeepsHeld terms a (c ∷ others) b (d ∷ others)
kept_ending terms a b c d others pieces same ends n = λ all journal is held. (all, cc, now_ending all c d others journal pieces ends n held)

-- one is taken out of the queue
pub kept_removed : (terms : Terms) (a b : Option (List Traffic)) (items : List Connection) (i : ℕ) (c : Connection) (after : List Connection) → b ≡ a → i < length items → c ≡ slice_index_or items i c
    → after ≡ remove items i → KeepsHeld terms a items b (c ∷ after)
kept_removed terms a b items i c after same within is rest = λ all journal at held.
    (all, cc, subst (λ others. AreHeld all (c ∷ others) journal) (sym rest) (taken_out all items i c journal (slice_get_read items (length items) i c refl within is) held))

pub kept_dropped : (terms : Terms) (a b : Option (List Traffic)) (items : List Connection) (i : ℕ) (c : Connection) (after : List Connection) → b ≡ a → i < length items → c ≡ slice_index_or items i c
    → after ≡ remove items i → KeepsHeld terms a items b after
kept_dropped terms a b items i c after same within is rest =
    keeps_then terms a b b items (c ∷ after) after (kept_removed terms a b items i c after same within is rest) (kept_closed terms b b c after refl)

-- one is put after the others
pub kept_put : (terms : Terms) (a b : Option (List Traffic)) (c d : Connection) (others after : List Connection) → b ≡ a → after ≡ others ++ d ∷ [] → d.number ≡ c.number → d.stage ≡ c.stage
    → d.request.items ≡ c.request.items → d.answer.items ≡ c.answer.items → d.handed ≡ c.handed → KeepsHeld terms a (c ∷ others) b after
kept_put terms a b c d others after same last n s r w h =
    subst (λ k. KeepsHeld terms a (c ∷ others) b k) (sym last) (keeps_then terms a b b (c ∷ others) (d ∷ others) (others ++ d ∷ []) (kept_alike terms a b c d others same n s r w h) (kept_last terms b b d others refl))

pub kept_ended : (terms : Terms) (a b : Option (List Traffic)) (c d : Connection) (others after : List Connection) (pieces : ℕ) → b ≡ a → after ≡ others ++ d ∷ [] → d.number ≡ c.number
    → d.stage ≡ stage.Ending pieces → KeepsHeld terms a (c ∷ others) b after
kept_ended terms a b c d others after pieces same last n ends =
    subst (λ k. KeepsHeld terms a (c ∷ others) b k) (sym last) (keeps_then terms a b b (c ∷ others) (d ∷ others) (others ++ d ∷ []) (kept_ending terms a b c d others pieces same ends n) (kept_last terms b b d others refl))

stays_marked : (held : List Connection) (i : ℕ) (found : Option Connection) → slice_get held i ≡ found → StaysHeld held (with_ready (remove held i) found)
stays_marked held i None at = λ terms all journal is. removed all held i journal is
stays_marked held i (Some c) at = λ terms all journal is.
    let out = taken_out all held i c journal at is in
    put_last all (record c { is_ready = true }) (remove held i) journal (alike all c (record c { is_ready = true }) (remove held i) journal refl refl refl refl refl out)

stays_marked_at : (held : List Connection) (found : Option ℕ) → StaysHeld held (marked_at held found)
stays_marked_at held None = λ terms all journal is. is
stays_marked_at held (Some i) = stays_marked held i (slice_get held i) refl

pub stays_waiting : (held : List Connection) (number : ℕ) → StaysHeld held (marked held number)
stays_waiting held number = stays_marked_at held (waits_for held number)

-- ---- what passes

pub kept_passed : (terms : Terms) (a b : Option (List Traffic)) (c d : Connection) (others : List Connection) (pieces : ℕ) → HasPassedOver c.number a b → d.stage ≡ stage.Ending pieces → d.number ≡ c.number
    → KeepsHeld terms a (c ∷ others) b (d ∷ others)
kept_passed terms a b c d others pieces (inl same) ends n = kept_ending terms a b c d others pieces same ends n
kept_passed terms a b c d others pieces (inr (inl ended)) ends n = λ all journal is held.
    (changed_at with_end c.number all, cc, passed_end all c d others journal pieces ends n held)
kept_passed terms a b c d others pieces (inr (inr (came, more))) ends n = λ all journal is held.
    (changed_at (with_received came) c.number all, cc, passed_more came all c d others journal pieces ends n held)

pub kept_handed : (terms : Terms) (a b : Option (List Traffic)) (c d : Connection) (others : List Connection) (status k : ℕ) → HandsOver (Some k) c.number c.answer.items c.handed d.handed a b
    → c.stage ≡ stage.Writing status → d.stage ≡ stage.Writing status → d.number ≡ c.number → d.answer.items ≡ c.answer.items → d.request.items ≡ c.request.items
    → KeepsHeld terms a (c ∷ others) b (d ∷ others)
kept_handed terms a b c d others status k (inl (handed, same)) was now n answer request = kept_alike terms a b c d others same n (cc) request answer handed
kept_handed terms a b c d others status k (inr (handed, more)) was now n answer request = λ all journal is held.
    (changed_at (with_sent (take k (drop c.handed c.answer.items))) c.number all, cc, handed_more k all c d others journal status was now n answer handed held)

pub kept_added : (terms : Terms) (a b : Option (List Traffic)) (held : List Connection) (c : Connection) (n : ℕ) → TakesConnection (Ok (Some n)) a b → c.number ≡ n → c.stage ≡ stage.Silent → c.request.items ≡ []
    → KeepsHeld terms a held b (c ∷ held)
kept_added terms a b held c n (grown, number) is silent empty = λ all journal at held_before.
    let it = number all at in (all ++ no_traffic ∷ [], cc, added all held c journal (cc) silent empty held_before)

pub kept_unfollowed : (terms : Terms) (a b : Option (List Traffic)) (held : List Connection) (n : ℕ) → TakesConnection (Ok (Some n)) a b → KeepsHeld terms a held b held
kept_unfollowed terms a b held n (grown, number) = λ all journal at held_before. (all ++ no_traffic ∷ [], cc, added_traffic all held journal held_before)

-- what one read gave is passed over
pub read_passes : (p : Piece) (n : ℕ) (bytes : List ℕ) (a b : Option (List Traffic)) → HasRead p n bytes a b → HasPassedOver n a b
read_passes (piece.Bytes k) n bytes a b read = inr (inr (take k bytes, read))
read_passes piece.End n bytes a b read = inr (inl read)
read_passes piece.Nothing n bytes a b read = inl read
read_passes piece.Broken n bytes a b read = inl read

pub passed_put : (terms : Terms) (a b : Option (List Traffic)) (c d : Connection) (others after : List Connection) (pieces : ℕ) → HasPassedOver c.number a b → after ≡ others ++ d ∷ [] → d.number ≡ c.number
    → d.stage ≡ stage.Ending pieces → KeepsHeld terms a (c ∷ others) b after
passed_put terms a b c d others after pieces passed last n ends =
    subst (λ k. KeepsHeld terms a (c ∷ others) b k) (sym last) (keeps_then terms a b b (c ∷ others) (d ∷ others) (others ++ d ∷ []) (kept_passed terms a b c d others pieces passed ends n) (kept_last terms b b d others refl))

pub passed_closed : (terms : Terms) (a b e : Option (List Traffic)) (c : Connection) (others : List Connection) → HasPassedOver c.number a b → e ≡ b → KeepsHeld terms a (c ∷ others) e others
passed_closed terms a b e c others passed same =
    let ending : Connection = record c { stage = stage.Ending 0 } in
    keeps_then terms a b e (c ∷ others) (ending ∷ others) others (kept_passed terms a b c ending others 0 passed refl refl) (kept_closed terms b e ending others same)

pub unfollowed : (terms : Terms) (a b e : Option (List Traffic)) (held : List Connection) (n : ℕ) → TakesConnection (Ok (Some n)) a b → e ≡ b → KeepsHeld terms a held e held
unfollowed terms a b e held n taken same = subst (λ shown. KeepsHeld terms a held shown held) (sym same) (kept_unfollowed terms a b held n taken)

pub taken_put : (terms : Terms) (a b e : Option (List Traffic)) (held : List Connection) (c : Connection) (n : ℕ) (after : List Connection) → TakesConnection (Ok (Some n)) a b → e ≡ b → c.number ≡ n → c.stage ≡ stage.Silent
    → c.request.items ≡ [] → after ≡ held ++ c ∷ [] → KeepsHeld terms a held e after
taken_put terms a b e held c n after taken same is silent empty last =
    subst (λ k. KeepsHeld terms a held e k) (sym last) (keeps_then terms a b e held (c ∷ held) (held ++ c ∷ []) (kept_added terms a b held c n taken is silent empty) (kept_last terms b e c held same))

writing_status : (s : Stage) → IsWriting s → (status : ℕ) × (s ≡ stage.Writing status)
writing_status stage.Silent w = absurd w
writing_status (stage.Reading first reads) w = absurd w
writing_status (stage.Writing status) w = (status, refl)
writing_status (stage.Ending pieces) w = absurd w

-- bytes of its answer were handed over
pub handed_kept : (terms : Terms) (a b : Option (List Traffic)) (c d : Connection) (others : List Connection) (k : ℕ) → IsWriting c.stage → HandsOver (Some k) c.number c.answer.items c.handed d.handed a b
    → d.number ≡ c.number → d.stage ≡ c.stage → d.answer.items ≡ c.answer.items → d.request.items ≡ c.request.items → KeepsHeld terms a (c ∷ others) b (d ∷ others)
handed_kept terms a b c d others k w handed n s answer request =
    let (status, is) = writing_status c.stage w in kept_handed terms a b c d others status k handed is (subst (λ t. t ≡ stage.Writing status) (sym s) is) n answer request

-- ---- a read of a request

pub read_more : (terms : Terms) (a b : Option (List Traffic)) (c d : Connection) (k n : ℕ) (before after : List ℕ) → Receives (piece.Bytes k) n before after a b → n ≡ c.number → before ≡ c.request.items
    → after ≡ d.request.items → IsUnserved d.stage → d.number ≡ c.number → IsUnserved c.stage → (others : List Connection) → KeepsHeld terms a (c ∷ others) b (d ∷ others)
read_more terms a b c d k n before after (came, is, grown) number was now v same u others = λ all journal at held.
    (changed_at (with_received came) c.number all, cc, received_more came all c d others journal u v same (cc) held)

pub ended_left : (terms : Terms) (a b : Option (List Traffic)) (c d : Connection) (n : ℕ) (before after : List ℕ) → Receives piece.End n before after a b → n ≡ c.number → before ≡ c.request.items
    → after ≡ d.request.items → (IsUnserved c.stage → IsUnserved d.stage) → d.number ≡ c.number → ReadsOn terms a c b d received.Ended
ended_left terms a b c d n before after (same, ended) number was now v is = λ all others journal at held u.
    let (shown, there, so) = held.each.0 in
    (changed_at with_end c.number all, cc, (ended_now all c d others journal u (v u) is (cc) held, v u, (with_end shown, cc (changed_there with_end c.number all shown there), inr refl)))

pub broken_left : (terms : Terms) (a b : Option (List Traffic)) (c d : Connection) (n : ℕ) → HasPassedOver n a b → n ≡ c.number → ReadsOn terms a c b d received.Broken
broken_left terms a b c d n passed number = λ all others journal at held u.
    let ending : Connection = record c { stage = stage.Ending 0 } in
    let (now, is, kept) = kept_passed terms a b c ending others 0 (subst (λ m. HasPassedOver m a b) number passed) refl refl all journal at held in
    (now, is, dropped now ending others journal kept)

pub lacks_left : (terms : Terms) (a b : Option (List Traffic)) (c d : Connection) → (IsUnserved c.stage → (others : List Connection) → KeepsHeld terms a (c ∷ others) b (d ∷ others)) → ReadsOn terms a c b d received.Lacks
lacks_left terms a b c d keeps = λ all others journal at held u. keeps u others all journal at held

-- what is judged of a request of which bytes have come
pub judged_left : (terms : Terms) (a b : Option (List Traffic)) (c d : Connection) (got : Received) → IsReceived terms d.now d.request.items got → got ≢ received.Ended → IsUnserved d.stage
    → (IsUnserved c.stage → (others : List Connection) → KeepsHeld terms a (c ∷ others) b (d ∷ others)) → ReadsOn terms a c b d got
judged_left terms a b c d received.Whole come unended v keeps = λ all others journal at held u.
    let (now, is, kept) = keeps u others all journal at held in (now, is, (kept, v, (kept.each.0.0, kept.each.0.1, inl come)))
judged_left terms a b c d received.Ended come unended v keeps = absurd (unended refl)
judged_left terms a b c d received.Lacks come unended v keeps = lacks_left terms a b c d keeps
judged_left terms a b c d received.Broken come unended v keeps = λ all others journal at held u.
    let (now, is, kept) = keeps u others all journal at held in (now, is, dropped now d others journal kept)

-- ---- a request that is served

-- what serving the request of a connection made, whatever exchanges were made before
abbrev pub MakesOneOf : {S : Type 0} (g : Ghosts S) → Terms → Connection → Option Reply → Desk S g → Desk S g → Type 0
MakesOneOf {S} g terms c reply x y = HasCleanDisk (state g y.connection) → (s : State) (journal : List (Exchange terms)) → Lacks c.number journal → HasDeskMade g terms s journal x
    → MakesOne terms c.now c.number c.request.items newest_schema s journal (Represents (state g y.connection) y.is_shut) y.is_shut (λ states. HasCrashStates (state g y.connection) states) reply

pub reply_now : (is_answered : Bool) (c : Connection) (status : ℕ) → is_answered ≡ true → c.stage ≡ stage.Writing status → reply_of is_answered c ≡ Some (record { status = status; text = c.answer })
reply_now true c status h is = λ i. reply_by c (is i)
reply_now false c status h is = absurd (cc)

pub goes_answering : {S : Type 0} (g : Ghosts S) (terms : Terms) (a b : Option (List Traffic)) (c d : Connection) (others kept : List Connection) (status : ℕ) (x y : Desk S g)
    → MakesOneOf g terms c (Some (record { status = status; text = d.answer })) x y → d.number ≡ c.number → d.stage ≡ stage.Writing status → d.handed ≡ 0
    → KeepsHeld terms a (d ∷ others) b kept → GoesOnServed g terms a c others x b kept y
goes_answering g terms a b c d others kept status x y makes n writing begun keeps = λ clean all journal s at held u may made.
    elim (makes clean s journal (unserved_lacks all c others journal u held) made) [
      | inl it ↦ absurd (let none = it.0 in cc)
      | inr it ↦ let (e, number, time, input, did, text) = it in
          let (now, is, after) = keeps all (e ∷ journal) at (answering all c d others journal e status u may number time input n writing begun (text (record { status = status; text = d.answer }) refl) held) in
          (now, is, e ∷ journal, after, did, omega arith)
    ]

pub goes_unanswered : {S : Type 0} (g : Ghosts S) (terms : Terms) (a b : Option (List Traffic)) (c : Connection) (others : List Connection) (reply : Option Reply) (x y : Desk S g)
    → MakesOneOf g terms c reply x y → b ≡ a → GoesOnServed g terms a c others x b others y
goes_unanswered g terms a b c others reply x y makes same = λ clean all journal s at held u may made.
    elim (makes clean s journal (unserved_lacks all c others journal u held) made) [
      | inl it ↦ (all, cc, journal, dropped all c others journal held, it.1, omega arith)
      | inr it ↦ let (e, number, time, input, did, text) = it in
          (all, cc, e ∷ journal, served all c others journal e u may number time input held, did, omega arith)
    ]

-- what was read is served, or kept, or dropped
pub goes_whole : {S : Type 0} (g : Ghosts S) (terms : Terms) (most : ℕ) (a b e : Option (List Traffic)) (c d : Connection) (others kept : List Connection) (got : Received) (x y : Desk S g) → 1 ≤ most
    → (got ≡ received.Whole) ⊎ (got ≡ received.Ended) → IsUnserved c.stage → ReadsOn terms a c b d got → GoesOnServed g terms b d others x e kept y → GoesOn g terms most a (c ∷ others) x e kept y
goes_whole g terms most a b e c d others kept received.Whole x y room whole u reads goes = λ clean all journal s at held made.
    let (now, is, (left, v, may)) = reads all others journal at held u in
    let (last, so, more, after, did, few) = goes clean now journal s is left v may made in (last, so, more, after, did, omega (arith, few, room))
goes_whole g terms most a b e c d others kept received.Ended x y room whole u reads goes = λ clean all journal s at held made.
    let (now, is, (left, v, may)) = reads all others journal at held u in
    let (last, so, more, after, did, few) = goes clean now journal s is left v may made in (last, so, more, after, did, omega (arith, few, room))
goes_whole g terms most a b e c d others kept received.Lacks x y room (inl is) u reads goes = absurd (cc)
goes_whole g terms most a b e c d others kept received.Lacks x y room (inr is) u reads goes = absurd (cc)
goes_whole g terms most a b e c d others kept received.Broken x y room (inl is) u reads goes = absurd (cc)
goes_whole g terms most a b e c d others kept received.Broken x y room (inr is) u reads goes = absurd (cc)

pub goes_lacking : {S : Type 0} (g : Ghosts S) (terms : Terms) (most : ℕ) (a b : Option (List Traffic)) (c d : Connection) (others after : List Connection) (x : Desk S g) → IsUnserved c.stage
    → ReadsOn terms a c b d received.Lacks → after ≡ others ++ d ∷ [] → GoesOn g terms most a (c ∷ others) x b after x
goes_lacking g terms most a b c d others after x u reads last = λ clean all journal s at held made.
    let (now, is, left) = reads all others journal at held u in
    (now, is, journal, subst (λ k. AreHeld now k journal) (sym last) (put_last now d others journal left), made, omega arith)

pub goes_broken : {S : Type 0} (g : Ghosts S) (terms : Terms) (most : ℕ) (a b e : Option (List Traffic)) (c d : Connection) (others : List Connection) (x : Desk S g) → IsUnserved c.stage → e ≡ b
    → ReadsOn terms a c b d received.Broken → GoesOn g terms most a (c ∷ others) x e others x
goes_broken g terms most a b e c d others x u same reads = λ clean all journal s at held made.
    let (now, is, left) = reads all others journal at held u in (now, cc, journal, left, made, omega arith)

-- the connection that goes on is taken out of the queue before
pub goes_out : {S : Type 0} (g : Ghosts S) (terms : Terms) (most : ℕ) (a e : Option (List Traffic)) (items : List Connection) (i : ℕ) (c : Connection) (others kept : List Connection) (x y : Desk S g)
    → i < length items → c ≡ slice_index_or items i c → others ≡ remove items i → GoesOn g terms most a (c ∷ others) x e kept y → GoesOn g terms most a items x e kept y
goes_out g terms most a e items i c others kept x y within is rest goes = λ clean all journal s at held made.
    let (now, so, out) = kept_removed terms a a items i c others refl within is rest all journal at held in goes clean now journal s so out made

-- a step of connections alone
pub goes_keeping : {S : Type 0} (g : Ghosts S) (terms : Terms) (most : ℕ) (a e : Option (List Traffic)) (items : List Connection) (i : ℕ) (c : Connection) (others kept : List Connection) (x : Desk S g)
    → i < length items → c ≡ slice_index_or items i c → others ≡ remove items i → KeepsHeld terms a (c ∷ others) e kept → GoesOn g terms most a items x e kept x
goes_keeping g terms most a e items i c others kept x within is rest keeps =
    goes_out g terms most a e items i c others kept x x within is rest (kept_on g terms most a e (c ∷ others) kept x keeps)
