-- Turns, one after the other.
use Rattle.std.proofs.Common.{◌≡◌, ℕ, List, [], ◌∷◌, ◌++◌, Bool, true, false, ◌||◌, Option, Err, refl, sym, ap, ◌∙◌, subst, append_assoc, append-nil}
use Rattle.std.proofs.Math.Bool.{or_assoc}
use Rattle.plant_base.specs.{State}
use Rattle.plant_keeper.specs.{States}
use Rattle.plant_text.specs.declared.turns.TurnError.{TurnError}
use Rattle.plant_text.specs.{entry_of, Entry, entry_text, after, is_refused, texts, fold, some_refused, AreAnswered, StopsAt, RunStopped, TurnEnds, FaultWritten, held_after, entries_after}
use Rattle.plant_questions.specs.declared.reply.DeskFault.TheVariants.{Memory}
use Rattle.plant_text.proofs.KnownBytes.{Appends-nil, Appends-append}
use Rattle.plant_text.proofs.BufferSuffices.{each-append}
use Rattle.plant_text.proofs.TurnEnds.{stops_by_fault}

pub texts-append : (k : ℕ) (s : State) (xs ys : List Entry) → texts k s (xs ++ ys) ≡ texts k s xs ++ texts k (fold s xs) ys
texts-append k s [] ys = refl
texts-append k s (e ∷ xs) ys = ap (λ zs. entry_text k s e ++ zs) (texts-append k (after s e) xs ys) ∙ sym (append_assoc (entry_text k s e) (texts k (after s e) xs) (texts k (fold (after s e) xs) ys))

pub fold-append : (s : State) (xs ys : List Entry) → fold s (xs ++ ys) ≡ fold (fold s xs) ys
fold-append s [] ys = refl
fold-append s (e ∷ xs) ys = fold-append (after s e) xs ys

pub some_refused-append : (k : ℕ) (s : State) (xs ys : List Entry) → some_refused k s (xs ++ ys) ≡ (some_refused k s xs || some_refused k (fold s xs) ys)
some_refused-append k s [] ys = refl
some_refused-append k s (e ∷ xs) ys = ap (λ b. is_refused k s e || b) (some_refused-append k (after s e) xs ys) ∙ sym (or_assoc (is_refused k s e) (some_refused k (after s e) xs) (some_refused k (fold (after s e) xs) ys))

pub or_false : (b : Bool) → (b || false) ≡ b
or_false true = refl
or_false false = refl

pub reported_nothing : (k : ℕ) (s : State) (a : Option (List ℕ)) (represents : States) (r : Bool) → represents s → AreAnswered k s [] a a represents r r
reported_nothing k s a represents r represented = record { text = Appends-nil a; state = represented; refused = sym (or_false r) }

pub reported_more : (k : ℕ) (s : State) (mid now : States) (xs ys : List Entry) (a b c : Option (List ℕ)) (p q r : Bool)
    → AreAnswered k s xs a b mid p q → ((t : State) → mid t → AreAnswered k t ys b c now q r) → AreAnswered k s (xs ++ ys) a c now p r
reported_more k s mid now xs ys a b c p q r x more =
    let y : AreAnswered k (fold s xs) ys b c now q r = more (fold s xs) x.state in
    record {
      text = rw (texts-append k s xs ys) (Appends-append a b c _ _ x.text y.text);
      state = subst now (sym (fold-append s xs ys)) y.state;
      refused = y.refused ∙ ap (λ v. v || some_refused k (fold s xs) ys) x.refused ∙ or_assoc p (some_refused k s xs) (some_refused k (fold s xs) ys)
          ∙ ap (λ v. p || v) (sym (some_refused-append k s xs ys));
    }

-- ---- a turn as a run of one entry

pub turn_stops : (k : ℕ) (s : State) (e : Entry) (more : List Entry) (a b : Option (List ℕ)) (represents : States) (shut : Bool) (crash_states : States → Type 0) (stop : TurnError) → TurnEnds k s e a b represents shut crash_states (Err stop) → RunStopped k s (e ∷ more) a b represents shut crash_states stop
turn_stops k s e more a b represents shut crash_states stop h = record { answered = []; next = e; more = more; cut = refl; between = a; reported = Appends-nil a; stops = h }

-- memory may be refused before any entry
pub memory_stops : (k : ℕ) (s : State) (e : Entry) (a b : Option (List ℕ)) (represents : States) (shut : Bool) (crash_states : States → Type 0) (stop : TurnError)
    → FaultWritten Memory a b stop → represents s → shut ≡ false → RunStopped k s (e ∷ []) a b represents shut crash_states stop
memory_stops k s e a b represents shut crash_states stop w represented h = record { answered = []; next = e; more = []; cut = refl; between = a; reported = Appends-nil a; stops = stops_by_fault k s e a b represents shut crash_states Memory stop w (represented, h) }

-- ---- a stop after what was written, and before what would have come

pub reported_stops : (k : ℕ) (s : State) (mid now : States) (xs ys : List Entry) (a b c : Option (List ℕ)) (p q : Bool) (shut : Bool) (crash_states : States → Type 0) (stop : TurnError)
    → AreAnswered k s xs a b mid p q → ((t : State) → mid t → RunStopped k t ys b c now shut crash_states stop) → RunStopped k s (xs ++ ys) a c now shut crash_states stop
reported_stops k s mid now xs ys a b c p q shut crash_states stop x stopped =
    let y : RunStopped k (fold s xs) ys b c now shut crash_states stop = stopped (fold s xs) x.state in
    record {
      answered = xs ++ y.answered;
      next = y.next;
      more = y.more;
      cut = ap (λ zs. xs ++ zs) y.cut ∙ sym (append_assoc xs y.answered (y.next ∷ y.more));
      between = y.between;
      reported = rw (texts-append k s xs y.answered) (Appends-append a b y.between _ _ x.text y.reported);
      stops = subst (λ (v : State). StopsAt k v y.next y.between c now shut crash_states stop) (sym (fold-append s xs y.answered)) y.stops;
    }

stopped_before : (k : ℕ) (s : State) (xs : List Entry) (e : Entry) (ys : List Entry) (a b : Option (List ℕ)) (represents : States) (shut : Bool) (crash_states : States → Type 0) (stop : TurnError)
    → RunStopped k s (xs ++ e ∷ []) a b represents shut crash_states stop → RunStopped k s (xs ++ e ∷ ys) a b represents shut crash_states stop
stopped_before k s xs e ys a b represents shut crash_states stop y = record {
  answered = y.answered;
  next = y.next;
  more = y.more ++ ys;
  cut = sym (append_assoc xs (e ∷ []) ys) ∙ ap (λ zs. zs ++ ys) y.cut ∙ append_assoc y.answered (y.next ∷ y.more) ys;
  between = y.between;
  reported = y.reported;
  stops = y.stops;
}

pub stopped_more : (k : ℕ) (s : State) (xs ys : List Entry) (a b : Option (List ℕ)) (represents : States) (shut : Bool) (crash_states : States → Type 0) (stop : TurnError)
    → ((e : Entry) → RunStopped k s (xs ++ e ∷ []) a b represents shut crash_states stop) → (e : Entry) → RunStopped k s ((xs ++ ys) ++ e ∷ []) a b represents shut crash_states stop
stopped_more k s xs [] a b represents shut crash_states stop h e = rw (append-nil xs) (h e)
stopped_more k s xs (y ∷ ys) a b represents shut crash_states stop h e = rw (append_assoc xs (y ∷ ys) (e ∷ [])) (stopped_before k s xs y (ys ++ e ∷ []) a b represents shut crash_states stop (h y))

-- ---- the entries of bytes

pub reported_same : (k : ℕ) (s : State) (es : List Entry) (a b : Option (List ℕ)) (represents : States) (r : Bool) → es ≡ [] → b ≡ a → represents s → AreAnswered k s es a b represents r r
reported_same k s es a b represents r e f represented = rw (e, f) (reported_nothing k s a represents r represented)

pub memory_stops_at : (k : ℕ) (s : State) (es : List Entry) (e : Entry) (a b : Option (List ℕ)) (represents : States) (shut : Bool) (crash_states : States → Type 0) (stop : TurnError)
    → es ≡ [] → FaultWritten Memory a b stop → represents s → shut ≡ false → RunStopped k s (es ++ e ∷ []) a b represents shut crash_states stop
memory_stops_at k s es e a b represents shut crash_states stop q w represented h = rw q (memory_stops k s e a b represents shut crash_states stop w represented h)

-- a piece more was taken
pub piece_reported : (k j : ℕ) (s : State) (mid now : States) (first held done piece all : List ℕ) (a b c : Option (List ℕ)) (p q r : Bool)
    → AreAnswered k s (entries_after first done) a b mid p q → j ≡ k → held ≡ held_after first done → ((t : State) → mid t → AreAnswered j t (entries_after held piece) b c now q r)
    → all ≡ done ++ piece → AreAnswered k s (entries_after first all) a c now p r
piece_reported k j s mid now first held done piece all a b c p q r x same_k same_held y e =
    rw (e, each-append entry_of first done piece, ← same_held) (reported_more k s mid now (entries_after first done) (entries_after held piece) a b c p q r x (λ t represented. rw (← same_k) (y t represented)))

-- the run stopped in a piece
pub piece_stops : (k j : ℕ) (s : State) (mid now : States) (first held done piece rest all : List ℕ) (a b c : Option (List ℕ)) (p q : Bool) (shut : Bool) (crash_states : States → Type 0) (stop : TurnError)
    → AreAnswered k s (entries_after first done) a b mid p q → j ≡ k → held ≡ held_after first done
    → ((t : State) → mid t → (e : Entry) → RunStopped j t (entries_after held piece ++ e ∷ []) b c now shut crash_states stop)
    → all ≡ done ++ (piece ++ rest) → (e : Entry) → RunStopped k s (entries_after first all ++ e ∷ []) a c now shut crash_states stop
piece_stops k j s mid now first held done piece rest all a b c p q shut crash_states stop x same_k same_held y e d =
    let parts : entries_after first all ≡ entries_after first done ++ (entries_after held piece ++ entries_after (held_after held piece) rest) =
    ap (entries_after first) e ∙ each-append entry_of first done (piece ++ rest) ∙ ap (λ h. entries_after first done ++ entries_after h (piece ++ rest)) (sym same_held)
    ∙ ap (λ es. entries_after first done ++ es) (each-append entry_of held piece rest) in
    let here : (t : State) → mid t → RunStopped k t ((entries_after held piece ++ entries_after (held_after held piece) rest) ++ d ∷ []) b c now shut crash_states stop =
    λ t represented. subst (λ (n : ℕ). RunStopped n t ((entries_after held piece ++ entries_after (held_after held piece) rest) ++ d ∷ []) b c now shut crash_states stop) same_k
    (stopped_more j t (entries_after held piece) (entries_after (held_after held piece) rest) b c now shut crash_states stop (y t represented) d) in
    let whole : RunStopped k s (entries_after first done ++ ((entries_after held piece ++ entries_after (held_after held piece) rest) ++ d ∷ [])) a c now shut crash_states stop =
    reported_stops k s mid now (entries_after first done) ((entries_after held piece ++ entries_after (held_after held piece) rest) ++ d ∷ []) a b c p q shut crash_states stop x here in
    subst (λ (es : List Entry). RunStopped k s es a c now shut crash_states stop)
    (sym (append_assoc (entries_after first done) (entries_after held piece ++ entries_after (held_after held piece) rest) (d ∷ [])) ∙ ap (λ es. es ++ d ∷ []) (sym parts)) whole
