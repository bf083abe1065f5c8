-- Connections that are held stay so, whatever passes over one of them.
use Rattle.std.proofs.Common.{◌≡◌, ◌≢◌, ◌+◌, ℕ, zero, suc, true, List, [], ◌∷◌, ◌++◌, length, take, drop, Some, refl, subst, sym, inl, inr, arith}
use Rattle.std.specs.List.{AllByRecursion, remove, slice_get}
use Rattle.std.proofs.lemmas.List.{append_assoc, append-nil, take-append-drop}
use Rattle.std.proofs.Math.Seq.{take-add}
use Rattle.plant_http_requests.specs.{Now, Terms}
use Rattle.desk_server.specs.Traffic.{Traffic, changed_at, no_traffic, with_end, with_received, with_sent}
use Rattle.desk_server.specs.Exchanges.{AreApart, AreExchangedOn, AreHeld, Exchange, HasComeOn, IsAt, IsBeginning, IsExchangedOn, IsHeld, IsUnserved, Lacks, MayBeServed, text_of}
use Rattle.desk_server.specs.declared.connection.Connection.{Connection}
use Rattle.desk_server.specs.declared.connection.Stage.{Stage}
use Rattle.desk_server.specs.declared.connection.Stage.TheVariants as stage
use Rattle.desk_server.proofs.TrafficChanged.{changed_there, changed_elsewhere, changed_back, changed_forth, added_before, added_last, added_back}

-- ---- lists

all_weaker : {X : Type 0} (P Q : X → Type 0) → ((x : X) → P x → Q x) → (xs : List X) → AllByRecursion P xs → AllByRecursion Q xs
all_weaker P Q f [] a = tt
all_weaker P Q f (x ∷ xs) a = (f x a.0, all_weaker P Q f xs a.1)

all_last : {X : Type 0} (P : X → Type 0) (xs : List X) (x : X) → AllByRecursion P xs → P x → AllByRecursion P (xs ++ x ∷ [])
all_last P [] x a p = (p, tt)
all_last P (y ∷ xs) x a p = (a.0, all_last P xs x a.1 p)

all_out : {X : Type 0} (P : X → Type 0) (xs : List X) (i : ℕ) (x : X) → slice_get xs i ≡ Some x → AllByRecursion P xs → P x × AllByRecursion P (remove xs i)
all_out P [] i x at a = absurd (cc)
all_out P (y ∷ xs) zero x at a = let same : y ≡ x = cc in (subst P same a.0, a.1)
all_out P (y ∷ xs) (suc i) x at a = let more = all_out P xs i x at a.1 in (more.0, (a.0, more.1))

all_removed : {X : Type 0} (P : X → Type 0) (xs : List X) (i : ℕ) → AllByRecursion P xs → AllByRecursion P (remove xs i)
all_removed P [] zero a = tt
all_removed P [] (suc i) a = tt
all_removed P (x ∷ xs) zero a = a.1
all_removed P (x ∷ xs) (suc i) a = (a.0, all_removed P xs i a.1)

-- ---- connections apart

apart_removed : (held : List Connection) (i : ℕ) → AreApart held → AreApart (remove held i)
apart_removed [] zero a = tt
apart_removed [] (suc i) a = tt
apart_removed (x ∷ held) zero a = a.1
apart_removed (x ∷ held) (suc i) a = (all_removed (λ (d : Connection). d.number ≢ x.number) held i a.0, apart_removed held i a.1)

apart_out : (held : List Connection) (i : ℕ) (c : Connection) → slice_get held i ≡ Some c → AreApart held
    → AllByRecursion (λ (d : Connection). d.number ≢ c.number) (remove held i) × AreApart (remove held i)
apart_out [] i c at a = absurd (cc)
apart_out (x ∷ held) zero c at a = let same : x ≡ c = cc in (subst (λ (y : Connection). AllByRecursion (λ (d : Connection). d.number ≢ y.number) held) same a.0, a.1)
apart_out (x ∷ held) (suc i) c at a =
    let more = apart_out held i c at a.1 in
    let one = all_out (λ (d : Connection). d.number ≢ x.number) held i c at a.0 in
    ((λ same. one.0 (cc), more.0), (one.1, more.1))

apart_last : (held : List Connection) (c : Connection) → AreApart held → AllByRecursion (λ (d : Connection). d.number ≢ c.number) held → AreApart (held ++ c ∷ [])
apart_last [] c a other = (tt, tt)
apart_last (x ∷ held) c a other = (all_last (λ (d : Connection). d.number ≢ x.number) held c a.0 (λ same. other.0 (cc)), apart_last held c a.1 other.1)

-- ---- the exchanges of connections

-- what was handed over to a connection is the beginning of the answer of each exchange of it
pub sent_of : {terms : Terms} (all : List Traffic) (n : ℕ) (c : Traffic) (journal : List (Exchange terms)) → slice_get all n ≡ Some c → AllByRecursion (IsExchangedOn all) journal
    → AllByRecursion (λ (e : Exchange terms). e.number ≡ n → IsBeginning c.sent (text_of e)) journal
sent_of all n c [] at a = tt
sent_of all n c (e ∷ journal) at a =
    let one = a.0 in
    (λ is. let same : one.0 ≡ c = cc in subst (λ (d : Traffic). IsBeginning d.sent (text_of e)) same one.4, sent_of all n c journal at a.1)

-- a change by which a connection has received no less, and has ended if it had
pub record Grows (f : Traffic → Traffic) : Type 0 where
  pub received : (c : Traffic) → IsBeginning c.received (f c).received
  pub ended : (c : Traffic) → c.has_ended ≡ true → (f c).has_ended ≡ true

begins_on : (front middle whole : List ℕ) → IsBeginning front middle → IsBeginning middle whole → IsBeginning front whole
begins_on front middle whole (a, is) (b, so) = (a ++ b, cc (append_assoc front a b))

come_on : (terms : Terms) (now : Now) (input : List ℕ) (c d : Traffic) → (c.has_ended ≡ true → d.has_ended ≡ true) → HasComeOn terms now input c → HasComeOn terms now input d
come_on terms now input c d ended (inl whole) = inl whole
come_on terms now input c d ended (inr h) = inr (ended h)

exchanged_changed : {terms : Terms} (f : Traffic → Traffic) (n : ℕ) (all : List Traffic) (journal : List (Exchange terms)) → Grows f
    → ((c : Traffic) → slice_get all n ≡ Some c → AllByRecursion (λ (e : Exchange terms). e.number ≡ n → IsBeginning (f c).sent (text_of e)) journal)
    → AllByRecursion (IsExchangedOn all) journal → AllByRecursion (IsExchangedOn (changed_at f n all)) journal
exchanged_changed f n all [] grows sent a = tt
exchanged_changed {terms} f n all (e ∷ journal) grows sent a =
    let (c, at, begins, came, answers) = a.0 in (
      elim (changed_forth f n e.number all c at) [
        | inl it ↦ (c, it, begins, came, answers)
        | inr it ↦ (
          f c,
          it.1,
          begins_on e.asked.input c.received (f c).received begins (grows.received c),
          come_on terms e.asked.now e.asked.input c (f c) (grows.ended c) came,
          (sent c (cc)).0 it.0,
        )
      ],
      exchanged_changed f n all journal grows (λ d there. (sent d there).1) a.1,
    )

pub changed_exchanges : {terms : Terms} (f : Traffic → Traffic) (n : ℕ) (all : List Traffic) (journal : List (Exchange terms)) → Grows f
    → ((c : Traffic) → slice_get all n ≡ Some c → AllByRecursion (λ (e : Exchange terms). e.number ≡ n → IsBeginning (f c).sent (text_of e)) journal)
    → ((c : Traffic) → slice_get all n ≡ Some c → Lacks n journal → (f c).sent ≡ [])
    → AreExchangedOn all journal → AreExchangedOn (changed_at f n all) journal
changed_exchanges f n all journal grows sent quiet a = record {
  each = exchanged_changed f n all journal grows sent a.each;
  silent = λ m d there none. elim (changed_back f n m all d there) [
    | inl it ↦ a.silent m d it none
    | inr it ↦ let none_of_n = subst (λ k. Lacks k journal) it.0 none in
        let (is_n, c, at, is) = it in
        let quiet_now = quiet c (cc) none_of_n in
        cc
  ];
}

-- ---- a connection that is held

held_elsewhere : {terms : Terms} (f : Traffic → Traffic) (n : ℕ) (all : List Traffic) (journal : List (Exchange terms)) (c : Connection) → c.number ≢ n → IsHeld all journal c → IsHeld (changed_at f n all) journal c
held_elsewhere f n all journal c other (shown, at, is) = (shown, cc (changed_elsewhere f n c.number all other), is)

all_elsewhere : {terms : Terms} (f : Traffic → Traffic) (n : ℕ) (all : List Traffic) (journal : List (Exchange terms)) (held : List Connection) → AllByRecursion (λ (d : Connection). d.number ≢ n) held
    → AllByRecursion (IsHeld all journal) held → AllByRecursion (IsHeld (changed_at f n all) journal) held
all_elsewhere f n all journal [] other a = tt
all_elsewhere f n all journal (c ∷ held) other a = (held_elsewhere f n all journal c other.0 a.0, all_elsewhere f n all journal held other.1 a.1)

unserved_at : {terms : Terms} (journal : List (Exchange terms)) (shown : Traffic) (c : Connection) (s : Stage) → IsUnserved s → IsAt journal shown c s
    → (shown.received ≡ c.request.items) × (shown.sent ≡ []) × Lacks c.number journal
unserved_at journal shown c stage.Silent u a = a
unserved_at journal shown c (stage.Reading first reads) u a = a
unserved_at journal shown c (stage.Writing status) u a = absurd u
unserved_at journal shown c (stage.Ending pieces) u a = absurd u

at_unserved : {terms : Terms} (journal : List (Exchange terms)) (shown : Traffic) (c : Connection) (s : Stage) → IsUnserved s
    → (shown.received ≡ c.request.items) × (shown.sent ≡ []) × Lacks c.number journal → IsAt journal shown c s
at_unserved journal shown c stage.Silent u a = a
at_unserved journal shown c (stage.Reading first reads) u a = a
at_unserved journal shown c (stage.Writing status) u a = absurd u
at_unserved journal shown c (stage.Ending pieces) u a = absurd u

-- ---- connections that are held

pub dropped : {terms : Terms} (all : List Traffic) (c : Connection) (others : List Connection) (journal : List (Exchange terms)) → AreHeld all (c ∷ others) journal → AreHeld all others journal
dropped all c others journal a = record { apart = a.apart.1; each = a.each.1; exchanged = a.exchanged }

pub replaced : {terms : Terms} (all : List Traffic) (c d : Connection) (others : List Connection) (journal : List (Exchange terms)) → d.number ≡ c.number → IsHeld all journal d
    → AreHeld all (c ∷ others) journal → AreHeld all (d ∷ others) journal
replaced all c d others journal same held a = record {
  apart = (subst (λ n. AllByRecursion (λ (e : Connection). e.number ≢ n) others) (sym same) a.apart.0, a.apart.1);
  each = (held, a.each.1);
  exchanged = a.exchanged;
}

writing_alike : {terms : Terms} (journal : List (Exchange terms)) (shown : Traffic) (c d : Connection) (status : ℕ) → d.number ≡ c.number → d.answer.items ≡ c.answer.items → shown.sent ≡ take d.handed d.answer.items
    → (Lacks c.number journal → ⊥) → AllByRecursion (λ (e : Exchange terms). e.number ≡ c.number → text_of e ≡ c.answer.items) journal → IsAt journal shown d (stage.Writing status)
writing_alike {terms} journal shown c d status n w sent some says = (
  sent,
  (λ none. some (subst (λ m. Lacks m journal) n none)),
  all_weaker (λ (e : Exchange terms). e.number ≡ c.number → text_of e ≡ c.answer.items) (λ (e : Exchange terms). e.number ≡ d.number → text_of e ≡ d.answer.items)
      (λ e said same. let text = said (cc) in cc) journal says,
)

at_alike : {terms : Terms} (journal : List (Exchange terms)) (shown : Traffic) (c d : Connection) (s : Stage) → d.number ≡ c.number → d.request.items ≡ c.request.items → d.answer.items ≡ c.answer.items → d.handed ≡ c.handed
    → IsAt journal shown c s → IsAt journal shown d s
at_alike journal shown c d stage.Silent n r w h is = (cc, is.1, subst (λ m. Lacks m journal) (sym n) is.2)
at_alike journal shown c d (stage.Reading first reads) n r w h is = (cc, is.1, subst (λ m. Lacks m journal) (sym n) is.2)
at_alike journal shown c d (stage.Writing status) n r w h is = writing_alike journal shown c d status n w (cc) is.1 is.2
at_alike journal shown c d (stage.Ending pieces) n r w h is = tt

-- what is known of it says nothing of when it moved on, and whether it is ready
pub alike : {terms : Terms} (all : List Traffic) (c d : Connection) (others : List Connection) (journal : List (Exchange terms)) → d.number ≡ c.number → d.stage ≡ c.stage → d.request.items ≡ c.request.items → d.answer.items ≡ c.answer.items
    → d.handed ≡ c.handed → AreHeld all (c ∷ others) journal → AreHeld all (d ∷ others) journal
alike all c d others journal n s r w h a =
    let (shown, at, is) = a.each.0 in
    replaced all c d others journal n (shown, cc, subst (λ s. IsAt journal shown d s) (sym s) (at_alike journal shown c d c.stage n r w h is)) a

pub taken_out : {terms : Terms} (all : List Traffic) (held : List Connection) (i : ℕ) (c : Connection) (journal : List (Exchange terms)) → slice_get held i ≡ Some c → AreHeld all held journal
    → AreHeld all (c ∷ remove held i) journal
taken_out all held i c journal at a = record { apart = apart_out held i c at a.apart; each = all_out (IsHeld all journal) held i c at a.each; exchanged = a.exchanged }

pub removed : {terms : Terms} (all : List Traffic) (held : List Connection) (i : ℕ) (journal : List (Exchange terms)) → AreHeld all held journal → AreHeld all (remove held i) journal
removed all held i journal a = record { apart = apart_removed held i a.apart; each = all_removed (IsHeld all journal) held i a.each; exchanged = a.exchanged }

pub unserved_lacks : {terms : Terms} (all : List Traffic) (c : Connection) (others : List Connection) (journal : List (Exchange terms)) → IsUnserved c.stage → AreHeld all (c ∷ others) journal → Lacks c.number journal
unserved_lacks all c others journal u a = let (shown, at, is) = a.each.0 in (unserved_at journal shown c c.stage u is).2

pub put_last : {terms : Terms} (all : List Traffic) (c : Connection) (others : List Connection) (journal : List (Exchange terms)) → AreHeld all (c ∷ others) journal → AreHeld all (others ++ c ∷ []) journal
put_last all c others journal a = record { apart = apart_last others c a.apart.1 a.apart.0; each = all_last (IsHeld all journal) others c a.each.1 a.each.0; exchanged = a.exchanged }

-- ---- what passes over one of them

pub changed_held : {terms : Terms} (f : Traffic → Traffic) (all : List Traffic) (c d : Connection) (others : List Connection) (journal : List (Exchange terms)) → Grows f
    → ((shown : Traffic) → slice_get all c.number ≡ Some shown → AllByRecursion (λ (e : Exchange terms). e.number ≡ c.number → IsBeginning (f shown).sent (text_of e)) journal)
    → ((shown : Traffic) → slice_get all c.number ≡ Some shown → Lacks c.number journal → (f shown).sent ≡ [])
    → d.number ≡ c.number → ((shown : Traffic) → slice_get all c.number ≡ Some shown → IsAt journal shown c c.stage → IsAt journal (f shown) d d.stage)
    → AreHeld all (c ∷ others) journal → AreHeld (changed_at f c.number all) (d ∷ others) journal
changed_held f all c d others journal grows sent quiet same then a =
    let (shown, at, is) = a.each.0 in record {
      apart = (subst (λ n. AllByRecursion (λ (e : Connection). e.number ≢ n) others) (sym same) a.apart.0, a.apart.1);
      each = ((f shown, cc (changed_there f c.number all shown at), then shown at is), all_elsewhere f c.number all journal others a.apart.0 a.each.1);
      exchanged = changed_exchanges f c.number all journal grows sent quiet a.exchanged;
    }

growing_received : (came : List ℕ) → Grows (with_received came)
growing_received came = record { received = λ c. (came, refl); ended = λ c h. h }

growing_end : Grows with_end
growing_end = record { received = λ c. ([], cc (append-nil c.received)); ended = λ c h. refl }

growing_sent : (bytes : List ℕ) → Grows (with_sent bytes)
growing_sent bytes = record { received = λ c. ([], cc (append-nil c.received)); ended = λ c h. h }

-- more was received of its request, which is no exchange yet
pub received_more : {terms : Terms} (came : List ℕ) (all : List Traffic) (c d : Connection) (others : List Connection) (journal : List (Exchange terms)) → IsUnserved c.stage → IsUnserved d.stage → d.number ≡ c.number
    → d.request.items ≡ c.request.items ++ came → AreHeld all (c ∷ others) journal → AreHeld (changed_at (with_received came) c.number all) (d ∷ others) journal
received_more came all c d others journal u v same is a = changed_held (with_received came) all c d others journal (growing_received came)
    (λ shown at. sent_of all c.number shown journal at a.exchanged.each) (λ shown at none. a.exchanged.silent c.number shown at none) same
    (λ shown at was. let (received, sent, none) = unserved_at journal shown c c.stage u was in
    at_unserved journal (with_received came shown) d d.stage v (cc, sent, subst (λ n. Lacks n journal) (sym same) none)) a

pub ended_now : {terms : Terms} (all : List Traffic) (c d : Connection) (others : List Connection) (journal : List (Exchange terms)) → IsUnserved c.stage → IsUnserved d.stage → d.number ≡ c.number
    → d.request.items ≡ c.request.items → AreHeld all (c ∷ others) journal → AreHeld (changed_at with_end c.number all) (d ∷ others) journal
ended_now all c d others journal u v same is a = changed_held with_end all c d others journal growing_end
    (λ shown at. sent_of all c.number shown journal at a.exchanged.each) (λ shown at none. a.exchanged.silent c.number shown at none) same
    (λ shown at was. let (received, sent, none) = unserved_at journal shown c c.stage u was in
    at_unserved journal (with_end shown) d d.stage v (cc, sent, subst (λ n. Lacks n journal) (sym same) none)) a

ending_at : {terms : Terms} (journal : List (Exchange terms)) (shown : Traffic) (d : Connection) (s : Stage) (pieces : ℕ) → s ≡ stage.Ending pieces → IsAt journal shown d s
ending_at journal shown d stage.Silent pieces is = absurd (cc)
ending_at journal shown d (stage.Reading first reads) pieces is = absurd (cc)
ending_at journal shown d (stage.Writing status) pieces is = absurd (cc)
ending_at journal shown d (stage.Ending more) pieces is = tt

-- more was received after its request
pub passed_more : {terms : Terms} (came : List ℕ) (all : List Traffic) (c d : Connection) (others : List Connection) (journal : List (Exchange terms)) (pieces : ℕ) → d.stage ≡ stage.Ending pieces → d.number ≡ c.number
    → AreHeld all (c ∷ others) journal → AreHeld (changed_at (with_received came) c.number all) (d ∷ others) journal
passed_more came all c d others journal pieces ends same a = changed_held (with_received came) all c d others journal (growing_received came)
    (λ shown at. sent_of all c.number shown journal at a.exchanged.each) (λ shown at none. a.exchanged.silent c.number shown at none) same
    (λ shown at was. ending_at journal (with_received came shown) d d.stage pieces ends) a

pub passed_end : {terms : Terms} (all : List Traffic) (c d : Connection) (others : List Connection) (journal : List (Exchange terms)) (pieces : ℕ) → d.stage ≡ stage.Ending pieces → d.number ≡ c.number
    → AreHeld all (c ∷ others) journal → AreHeld (changed_at with_end c.number all) (d ∷ others) journal
passed_end all c d others journal pieces ends same a = changed_held with_end all c d others journal growing_end
    (λ shown at. sent_of all c.number shown journal at a.exchanged.each) (λ shown at none. a.exchanged.silent c.number shown at none) same
    (λ shown at was. ending_at journal (with_end shown) d d.stage pieces ends) a

-- it was answered, or its client sends on
pub now_ending : {terms : Terms} (all : List Traffic) (c d : Connection) (others : List Connection) (journal : List (Exchange terms)) (pieces : ℕ) → d.stage ≡ stage.Ending pieces → d.number ≡ c.number
    → AreHeld all (c ∷ others) journal → AreHeld all (d ∷ others) journal
now_ending all c d others journal pieces ends same a =
    let (shown, at, is) = a.each.0 in replaced all c d others journal same (shown, cc, ending_at journal shown d d.stage pieces ends) a

-- ---- its answer

writing_at : {terms : Terms} (journal : List (Exchange terms)) (shown : Traffic) (c : Connection) (s : Stage) (status : ℕ) → s ≡ stage.Writing status → IsAt journal shown c s → IsAt journal shown c (stage.Writing status)
writing_at journal shown c s status is a = subst (λ s. IsAt journal shown c s) is a

begins_with : (n : ℕ) (whole : List ℕ) → IsBeginning (take n whole) whole
begins_with n whole = (drop n whole, cc (take-append-drop n whole))

-- the next bytes of its answer were handed over
pub handed_more : {terms : Terms} (k : ℕ) (all : List Traffic) (c d : Connection) (others : List Connection) (journal : List (Exchange terms)) (status : ℕ) → c.stage ≡ stage.Writing status → d.stage ≡ stage.Writing status
    → d.number ≡ c.number → d.answer.items ≡ c.answer.items → d.handed ≡ c.handed + k
    → AreHeld all (c ∷ others) journal → AreHeld (changed_at (with_sent (take k (drop c.handed c.answer.items))) c.number all) (d ∷ others) journal
handed_more {terms} k all c d others journal status was now same answer handed a =
    let (held, there, is) = a.each.0 in
    let (sent, some, says) = writing_at journal held c c.stage status was is in
    let next = take k (drop c.handed c.answer.items) in
    let more : (shown : Traffic) → slice_get all c.number ≡ Some shown → shown.sent ++ next ≡ take (c.handed + k) c.answer.items =
    λ shown at. let one : shown ≡ held = cc in cc (take-add c.handed k c.answer.items) in
    changed_held (with_sent next) all c d others journal (growing_sent next)
    (λ shown at. all_weaker (λ (e : Exchange terms). e.number ≡ c.number → text_of e ≡ c.answer.items) (λ (e : Exchange terms). e.number ≡ c.number → IsBeginning (shown.sent ++ next) (text_of e))
    (λ e text of. let it = text of in let so = more shown at in subst (λ w. IsBeginning (shown.sent ++ next) w) (sym it) (subst (λ w. IsBeginning w c.answer.items) (sym so) (begins_with (c.handed + k) c.answer.items)))
    journal says)
    (λ shown at none. absurd (some none)) same
    (λ shown at was_at. let so = more shown at in
    subst (λ s. IsAt journal (with_sent next shown) d s) (sym now) (writing_alike journal (with_sent next shown) c d status same answer (cc) some says)) a

-- ---- one more connection

not_past : (all : List Traffic) (m : ℕ) (c : Traffic) → slice_get all m ≡ Some c → m ≢ length all
not_past [] m c at same = absurd (cc)
not_past (x ∷ all) zero c at same = absurd (omega (arith, same))
not_past (x ∷ all) (suc m) c at same = not_past all m c at (omega (arith, same))

new_exchange : {terms : Terms} (all : List Traffic) (x : Traffic) (e : Exchange terms) → IsExchangedOn all e → IsExchangedOn (all ++ x ∷ []) e
new_exchange all x e (c, at, begins, came, answers) = (c, added_before all x e.number c at, begins, came, answers)

new_held : {terms : Terms} (all : List Traffic) (x : Traffic) (journal : List (Exchange terms)) (c : Connection) → IsHeld all journal c → IsHeld (all ++ x ∷ []) journal c
new_held all x journal c (shown, at, is) = (shown, added_before all x c.number shown at, is)

-- one over which nothing has passed
pub added_traffic : {terms : Terms} (all : List Traffic) (held : List Connection) (journal : List (Exchange terms)) → AreHeld all held journal → AreHeld (all ++ no_traffic ∷ []) held journal
added_traffic {terms} all held journal a = record {
  apart = a.apart;
  each = all_weaker (IsHeld all journal) (IsHeld (all ++ no_traffic ∷ []) journal) (new_held all no_traffic journal) held a.each;
  exchanged = record {
    each = all_weaker (IsExchangedOn all) (IsExchangedOn (all ++ no_traffic ∷ [])) (new_exchange all no_traffic) journal a.exchanged.each;
    silent = λ n d there none. elim (added_back all no_traffic n d there) [
      | inl it ↦ a.exchanged.silent n d it none
      | inr it ↦ cc
    ];
  };
}

pub added : {terms : Terms} (all : List Traffic) (held : List Connection) (c : Connection) (journal : List (Exchange terms)) → c.number ≡ length all → c.stage ≡ stage.Silent → c.request.items ≡ [] → AreHeld all held journal
    → AreHeld (all ++ no_traffic ∷ []) (c ∷ held) journal
added {terms} all held c journal number silent empty a =
    let with_traffic = added_traffic all held journal a in record {
      apart = (all_weaker (IsHeld all journal) (λ (d : Connection). d.number ≢ c.number) (λ d is same. not_past all d.number is.0 is.1 (cc)) held a.each, a.apart);
      each = (
        (
          no_traffic,
          cc (added_last all no_traffic),
          subst (λ s. IsAt journal no_traffic c s) (sym silent) (
            cc,
            refl,
            all_weaker (IsExchangedOn all) (λ (e : Exchange terms). e.number ≢ c.number) (λ e is same. not_past all e.number is.0 is.1 (cc)) journal a.exchanged.each,
          ),
        ),
        with_traffic.each,
      );
      exchanged = with_traffic.exchanged;
    }

-- ---- one more exchange

beside : {terms : Terms} (e : Exchange terms) (journal : List (Exchange terms)) (shown : Traffic) (d : Connection) (s : Stage) → e.number ≢ d.number → IsAt journal shown d s → IsAt (e ∷ journal) shown d s
beside e journal shown d stage.Silent other is = (is.0, is.1, (other, is.2))
beside e journal shown d (stage.Reading first reads) other is = (is.0, is.1, (other, is.2))
beside e journal shown d (stage.Writing status) other is = (is.0, (λ none. is.1 none.1), ((λ same. absurd (other same)), is.2))
beside e journal shown d (stage.Ending pieces) other is = tt

all_beside : {terms : Terms} (all : List Traffic) (e : Exchange terms) (journal : List (Exchange terms)) (n : ℕ) (held : List Connection) → e.number ≡ n → AllByRecursion (λ (d : Connection). d.number ≢ n) held
    → AllByRecursion (IsHeld all journal) held → AllByRecursion (IsHeld all (e ∷ journal)) held
all_beside all e journal n [] is other a = tt
all_beside all e journal n (d ∷ held) is other a =
    let (shown, at, so) = a.0 in ((shown, at, beside e journal shown d d.stage (λ same. other.0 (cc)) so), all_beside all e journal n held is other.1 a.1)

-- a request that was received whole was served: there is one exchange more
pub served : {terms : Terms} (all : List Traffic) (c : Connection) (others : List Connection) (journal : List (Exchange terms)) (e : Exchange terms) → IsUnserved c.stage → MayBeServed terms all c
    → e.number ≡ c.number → e.asked.now ≡ c.now → e.asked.input ≡ c.request.items → AreHeld all (c ∷ others) journal → AreHeld all others (e ∷ journal)
served {terms} all c others journal e u may number time input a =
    let (shown, at, is) = a.each.0 in
    let (received, sent, none) = unserved_at journal shown c c.stage u is in
    let (other, there, come) = may in
    let one : other ≡ shown = cc in
    let come_here : HasComeOn terms e.asked.now e.asked.input shown =
    subst (λ t. HasComeOn terms t e.asked.input shown) (sym time) (subst (λ w. HasComeOn terms c.now w shown) (sym input) (subst (λ o. HasComeOn terms c.now c.request.items o) one come)) in record {
      apart = a.apart.1;
      each = all_beside all e journal c.number others number a.apart.0 a.each.1;
      exchanged = record {
        each = ((shown, cc, ([], cc (append-nil e.asked.input)), come_here, (text_of e, cc)), a.exchanged.each);
        silent = λ n d there lacks. a.exchanged.silent n d there lacks.1;
      };
    }

-- and its answer begins to be handed over
pub answering : {terms : Terms} (all : List Traffic) (c d : Connection) (others : List Connection) (journal : List (Exchange terms)) (e : Exchange terms) (status : ℕ) → IsUnserved c.stage → MayBeServed terms all c
    → e.number ≡ c.number → e.asked.now ≡ c.now → e.asked.input ≡ c.request.items → d.number ≡ c.number → d.stage ≡ stage.Writing status → d.handed ≡ 0 → text_of e ≡ d.answer.items
    → AreHeld all (c ∷ others) journal → AreHeld all (d ∷ others) (e ∷ journal)
answering {terms} all c d others journal e status u may number time input same writing begun text a =
    let (shown, at, is) = a.each.0 in
    let (received, sent, none) = unserved_at journal shown c c.stage u is in
    let rest = served all c others journal e u may number time input a in
    let says : AllByRecursion (λ (f : Exchange terms). f.number ≡ d.number → text_of f ≡ d.answer.items) journal =
    all_weaker (λ (f : Exchange terms). f.number ≢ c.number) (λ (f : Exchange terms). f.number ≡ d.number → text_of f ≡ d.answer.items) (λ f other of. absurd (other (cc))) journal none in record {
      apart = (subst (λ n. AllByRecursion (λ (f : Connection). f.number ≢ n) others) (sym same) a.apart.0, a.apart.1);
      each = ((shown, cc, subst (λ s. IsAt (e ∷ journal) shown d s) (sym writing) (cc, (λ lacks. lacks.0 (cc)), ((λ of. text), says))), rest.each);
      exchanged = rest.exchanged;
    }
