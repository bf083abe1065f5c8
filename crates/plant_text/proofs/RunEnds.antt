-- How a run ends.
use Rattle.std.proofs.Common.{◌≡◌, ℕ, ◌<◌, length, List, [], ◌∷◌, ◌++◌, Bool, false, Option, sym, ap, ◌∙◌, subst, inl, inr}
use Rattle.std.proofs.lemmas.List.{map-append}
use Rattle.std.specs.Io.KnownBytes.{IsAtEnd}
use Rattle.plant_base.specs.{State}
use Rattle.plant_keeper.specs.{States}
use Rattle.plant_text.specs.declared.turns.TurnError.{TurnError}
use Rattle.plant_text.specs.declared.turns.TurnError.TheVariants as S
use Rattle.plant_text.specs.{Entry, fold, AreAnswered, RunStopped, EndsWithin, nothing, entry_of, entries, ended_lines, all_lines, part_from, LastEnds, end_of, held_after, entries_after, longest_line}
use Rattle.plant_text.specs.declared.run.RunEnd.{RunEnd}
use Rattle.plant_text.specs.declared.run.RunEnd.TheVariants as E
use Rattle.plant_text.proofs.BufferSuffices.{each-prefix, last_as_whole}
use Rattle.std.specs.Str.Lines.{lines}
use Rattle.plant_text.proofs.TurnEnds.{entry_long}
use Rattle.plant_text.proofs.RepliesConcatenate.{reported_more, reported_stops}
use Rattle.plant_text.proofs.LinesMatchStd.{reported_lines}

-- ---- the lines of bytes

-- each longer line is one bad entry
longer_alike : (l m : List ℕ) → longest_line < length l → longest_line < length m → entry_of l ≡ entry_of m
longer_alike l m long more = entry_long l long ∙ sym (entry_long m more)

pub ended_entries : (bytes : List ℕ) → entries_after [] bytes ≡ entries (ended_lines bytes)
ended_entries bytes = each-prefix entry_of longer_alike [] bytes

pub all_entries : (bytes : List ℕ) → entries_after [] bytes ++ entry_of (part_from [] bytes) ∷ [] ≡ entries (all_lines bytes)
all_entries bytes = ap (λ es. es ++ entry_of (part_from [] bytes) ∷ []) (ended_entries bytes) ∙ sym (map-append entry_of (ended_lines bytes) (part_from [] bytes ∷ []))

last_entry : (bytes held : List ℕ) → held ≡ held_after [] bytes → entry_of held ≡ entry_of (part_from [] bytes)
last_entry bytes held e = last_as_whole entry_of longer_alike bytes held e

-- ---- how a run ends

pub read_ends : (k : ℕ) (s : State) (bytes : List ℕ) (a b : Option (List ℕ)) (represents : States) (p q : Bool) → AreAnswered k s (entries_after [] bytes) a b represents p q → AreAnswered k s (entries (ended_lines bytes)) a b represents p q
read_ends k s bytes a b represents p q x = subst (λ (es : List Entry). AreAnswered k s es a b represents p q) (ended_entries bytes) x

pub stopped_ends : (most k : ℕ) (s : State) (bytes : List ℕ) (left a b : Option (List ℕ)) (represents : States) (shut : Bool) (crash_states : States → Type 0) (stop : TurnError)
    → ((e : Entry) → RunStopped k s (entries_after [] bytes ++ e ∷ []) a b represents shut crash_states stop) → EndsWithin most k s bytes left a b represents shut crash_states (end_of stop)
stopped_ends most k s bytes left a b represents shut crash_states S.Write h = inr (subst (λ (es : List Entry). RunStopped k s (es ++ nothing ∷ []) a b represents shut crash_states S.Write) (ended_entries bytes) (h nothing))
stopped_ends most k s bytes left a b represents shut crash_states (S.Fault f) h = inr (subst (λ (es : List Entry). RunStopped k s (es ++ nothing ∷ []) a b represents shut crash_states (S.Fault f)) (ended_entries bytes) (h nothing))

last_entries : (bytes held : List ℕ) → held ≡ held_after [] bytes → entries_after [] bytes ++ entry_of held ∷ [] ≡ entries (all_lines bytes)
last_entries bytes held e = ap (λ x. entries_after [] bytes ++ x ∷ []) (last_entry bytes held e) ∙ all_entries bytes

last_told : (k j : ℕ) (s : State) (mid now : States) (bytes held : List ℕ) (a b c : Option (List ℕ)) (p q r : Bool)
    → AreAnswered k s (entries_after [] bytes) a b mid p q → j ≡ k → held ≡ held_after [] bytes → ((t : State) → mid t → AreAnswered j t (entry_of held ∷ []) b c now q r) → AreAnswered k s (entries (lines bytes)) a c now p r
last_told k j s mid now bytes held a b c p q r x same_k same_held y =
    reported_lines k s bytes a c now p r (subst (λ (es : List Entry). AreAnswered k s es a c now p r) (last_entries bytes held same_held)
    (reported_more k s mid now (entries_after [] bytes) (entry_of held ∷ []) a b c p q r x (λ t represented. subst (λ (n : ℕ). AreAnswered n t (entry_of held ∷ []) b c now q r) same_k (y t represented))))

last_stops : (k j : ℕ) (s : State) (mid now : States) (bytes held : List ℕ) (a b c : Option (List ℕ)) (p q : Bool) (shut : Bool) (crash_states : States → Type 0) (stop : TurnError)
    → AreAnswered k s (entries_after [] bytes) a b mid p q → j ≡ k → held ≡ held_after [] bytes → ((t : State) → mid t → RunStopped j t (entry_of held ∷ []) b c now shut crash_states stop)
    → RunStopped k s (entries (all_lines bytes)) a c now shut crash_states stop
last_stops k j s mid now bytes held a b c p q shut crash_states stop x same_k same_held y =
    subst (λ (es : List Entry). RunStopped k s es a c now shut crash_states stop) (last_entries bytes held same_held)
    (reported_stops k s mid now (entries_after [] bytes) (entry_of held ∷ []) a b c p q shut crash_states stop x (λ t represented. subst (λ (n : ℕ). RunStopped n t (entry_of held ∷ []) b c now shut crash_states stop) same_k (y t represented)))

pub last_ends : (most k j : ℕ) (s : State) (mid now : States) (bytes held : List ℕ) (left a b c : Option (List ℕ)) (q : Bool) (shut : Bool) (crash_states : States → Type 0) (end : RunEnd)
    → AreAnswered k s (entries_after [] bytes) a b mid false q → j ≡ k → held ≡ held_after [] bytes → IsAtEnd left → ((t : State) → mid t → LastEnds j t (entry_of held) b c now shut crash_states q end)
    → EndsWithin most k s bytes left a c now shut crash_states end
last_ends most k j s mid now bytes held left a b c q shut crash_states (E.Done r) x same_k same_held l y =
    (l, last_told k j s mid now bytes held a b c false q r x same_k same_held (λ t represented. (y t represented).0), (y (fold s (entries_after [] bytes)) x.state).1)
last_ends most k j s mid now bytes held left a b c q shut crash_states E.Read x same_k same_held l y = absurd (y (fold s (entries_after [] bytes)) x.state)
last_ends most k j s mid now bytes held left a b c q shut crash_states E.Endless x same_k same_held l y = absurd (y (fold s (entries_after [] bytes)) x.state)
last_ends most k j s mid now bytes held left a b c q shut crash_states E.Write x same_k same_held l y = inl (l, last_stops k j s mid now bytes held a b c false q shut crash_states S.Write x same_k same_held y)
last_ends most k j s mid now bytes held left a b c q shut crash_states (E.Fault f) x same_k same_held l y = inl (l, last_stops k j s mid now bytes held a b c false q shut crash_states (S.Fault f) x same_k same_held y)

pub last_stopped : (k : ℕ) (s : State) (e : Entry) (a b : Option (List ℕ)) (represents : States) (shut : Bool) (crash_states : States → Type 0) (p : Bool) (stop : TurnError)
    → RunStopped k s (e ∷ []) a b represents shut crash_states stop → LastEnds k s e a b represents shut crash_states p (end_of stop)
last_stopped k s e a b represents shut crash_states p S.Write h = h
last_stopped k s e a b represents shut crash_states p (S.Fault f) h = h
