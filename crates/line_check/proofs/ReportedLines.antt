-- Lines that were reported, one after the other.
use Rattle.std.proofs.Common.{◌≡◌, ℕ, ◌+◌, ◌<◌, List, [], ◌∷◌, ◌++◌, length, Bool, true, false, nat_eq, cond, Option, Result, Ok, Err, refl, sym, ap, ◌∙◌, subst, append_assoc, arith, append-nil, IfOk}
use Rattle.std.proofs.lemmas.List.{map-append}
use Rattle.std.proofs.lemmas.Bool.Decides.{nat_tests}
use Rattle.std.specs.Io.KnownBytes.{Appends, Consumes, IsAtEnd}
use Rattle.std.specs.Str.Lines.{lines}
use Rattle.plant_text.specs.{part_from, ended_lines, held_after, longest_line}
use Rattle.plant_text.proofs.KnownBytes.{Appends-nil, Appends-append}
use Rattle.plant_text.proofs.LinesMatchStd.{lines_are}
use Rattle.line_check.specs.declared.judge.Verdict.{Verdict}
use Rattle.line_check.specs.declared.judge.Verdict.TheVariants as verdict
use Rattle.line_check.specs.declared.lines.Tally.{Tally}
use Rattle.desk_cli.specs.{CheckFault}
use Rattle.line_check.specs.{verdict_of, verdicts, line_text, texts, tally_with, tally_after, end_text, no_lines, report, some_bad, verdicts_after, AreWrittenAndCounted}
use Rattle.line_check.proofs.VerdictOfLine.{verdict_empty, verdict_long}
use Rattle.plant_text.proofs.BufferSuffices.{each-append, each-prefix, last_as_whole}

-- one verdict counts one line
tally_with_lines : (t : Tally) (v : Verdict) → (tally_with t v).lines ≡ t.lines + 1
tally_with_lines t verdict.Nothing = refl
tally_with_lines t _ = refl

tally_after-append : (t : Tally) (xs ys : List Verdict) → tally_after t (xs ++ ys) ≡ tally_after (tally_after t xs) ys
tally_after-append t [] ys = refl
tally_after-append t (v ∷ xs) ys = tally_after-append (tally_with t v) xs ys

pub texts-append : (t : Tally) (xs ys : List Verdict) → texts t.lines (xs ++ ys) ≡ texts t.lines xs ++ texts (tally_after t xs).lines ys
texts-append t [] ys = refl
texts-append t (v ∷ xs) ys =
    ap (λ zs. line_text (t.lines + 1) v ++ zs)
    (ap (λ n. texts n (xs ++ ys)) (sym (tally_with_lines t v)) ∙ texts-append (tally_with t v) xs ys
    ∙ ap (λ n. texts n xs ++ texts (tally_after (tally_with t v) xs).lines ys) (tally_with_lines t v))
    ∙ sym (append_assoc (line_text (t.lines + 1) v) (texts (t.lines + 1) xs) (texts (tally_after (tally_with t v) xs).lines ys))

pub reported_nothing : (t : Tally) (a : Option (List ℕ)) → AreWrittenAndCounted t [] a a t
reported_nothing t a = record { text = Appends-nil a; tally = refl }

pub reported_more : (t mid now : Tally) (xs ys : List Verdict) (a b c : Option (List ℕ)) → AreWrittenAndCounted t xs a b mid → AreWrittenAndCounted mid ys b c now → AreWrittenAndCounted t (xs ++ ys) a c now
reported_more t mid now xs ys a b c x y = record {
  text = rw (texts-append t xs ys, ← x.tally) (Appends-append a b c _ _ x.text y.text);
  tally = y.tally ∙ ap (λ u. tally_after u ys) x.tally ∙ sym (tally_after-append t xs ys);
}

pub reported_same : (t : Tally) (vs : List Verdict) (a b : Option (List ℕ)) → vs ≡ [] → b ≡ a → AreWrittenAndCounted t vs a b t
reported_same t vs a b e f = rw (e, f) (reported_nothing t a)

-- a piece more was taken
pub piece_reported : (t mid now : Tally) (first held done piece all : List ℕ) (a b c : Option (List ℕ))
    → AreWrittenAndCounted t (verdicts_after first done) a b mid → held ≡ held_after first done → AreWrittenAndCounted mid (verdicts_after held piece) b c now
    → all ≡ done ++ piece → AreWrittenAndCounted t (verdicts_after first all) a c now
piece_reported t mid now first held done piece all a b c x same_held y e =
    rw (e, each-append verdict_of first done piece, ← same_held) (reported_more t mid now (verdicts_after first done) (verdicts_after held piece) a b c x y)

-- ---- the end of an input

abbrev last_of : List ℕ → List (List ℕ)
last_of x = cond (nat_eq (length x) 0) [] (x ∷ [])

-- the lines were reported, and the tally is theirs but for an empty line after them
record Ended (ls : List (List ℕ)) (a b : Option (List ℕ)) (now : Tally) : Type 0 where
  text : Appends a b (texts 0 (verdicts ls))
  end : end_text now ≡ end_text (tally_after no_lines (verdicts ls))
  bad : now.bad ≡ (tally_after no_lines (verdicts ls)).bad

ended_trim : (ls : List (List ℕ)) (a b : Option (List ℕ)) (now : Tally) → AreWrittenAndCounted no_lines (verdicts ls ++ verdict.Nothing ∷ []) a b now → Ended ls a b now
ended_trim ls a b now x =
    let tally : now ≡ tally_with (tally_after no_lines (verdicts ls)) verdict.Nothing = x.tally ∙ tally_after-append no_lines (verdicts ls) (verdict.Nothing ∷ []) in
    record {
      text = subst (λ (text : List ℕ). Appends a b text) (texts-append no_lines (verdicts ls) (verdict.Nothing ∷ []) ∙ append-nil (texts 0 (verdicts ls))) x.text;
      end = ap end_text tally;
      bad = ap (λ (t : Tally). t.bad) tally;
    }

ended_whole : (ls : List (List ℕ)) (a b : Option (List ℕ)) (now : Tally) → AreWrittenAndCounted no_lines (verdicts ls) a b now → Ended ls a b now
ended_whole ls a b now x = record { text = x.text; end = ap end_text x.tally; bad = ap (λ (t : Tally). t.bad) x.tally }

ended_last : (ls : List (List ℕ)) (x : List ℕ) (a b : Option (List ℕ)) (now : Tally) → AreWrittenAndCounted no_lines (verdicts ls ++ verdict_of x ∷ []) a b now
    → (v : Bool) → nat_eq (length x) 0 ≡ v → Ended (ls ++ cond v [] (x ∷ [])) a b now
ended_last ls x a b now reported true e =
    let empty : length x ≡ 0 = grind (arith, nat_tests) in
    subst (λ (zs : List (List ℕ)). Ended zs a b now) (sym (append-nil ls))
    (ended_trim ls a b now (subst (λ (v : Verdict). AreWrittenAndCounted no_lines (verdicts ls ++ v ∷ []) a b now) (verdict_empty x empty) reported))
ended_last ls x a b now reported false e =
    ended_whole (ls ++ x ∷ []) a b now (subst (λ (vs : List Verdict). AreWrittenAndCounted no_lines vs a b now) (sym (map-append verdict_of ls (x ∷ []))) reported)

-- each longer line has one verdict
longer_alike : (l m : List ℕ) → longest_line < length l → longest_line < length m → verdict_of l ≡ verdict_of m
longer_alike l m long more = verdict_long l long ∙ sym (verdict_long m more)

ended_lines_reported : (bytes line : List ℕ) (a b : Option (List ℕ)) (now : Tally) → line ≡ held_after [] bytes
    → AreWrittenAndCounted no_lines (verdicts_after [] bytes ++ verdict_of line ∷ []) a b now → Ended (lines bytes) a b now
ended_lines_reported bytes line a b now e reported =
    let part = part_from [] bytes in
    let same : verdicts_after [] bytes ++ verdict_of line ∷ [] ≡ verdicts (ended_lines bytes) ++ verdict_of part ∷ [] =
    ap (λ v. verdicts_after [] bytes ++ v ∷ []) (last_as_whole verdict_of longer_alike bytes line e) ∙ ap (λ vs. vs ++ verdict_of part ∷ []) (each-prefix verdict_of longer_alike [] bytes) in
    subst (λ (zs : List (List ℕ)). Ended zs a b now) (sym (lines_are bytes))
    (ended_last (ended_lines bytes) part a b now (subst (λ (vs : List Verdict). AreWrittenAndCounted no_lines vs a b now) same reported) (nat_eq (length part) 0) refl)

-- what is known of the last line and the end that were reported after a tally
abbrev pub LastReported : Tally → List ℕ → Option (List ℕ) → Option (List ℕ) → Bool → Type 0
LastReported mid line b c bad = (now : Tally) × (between : Option (List ℕ)) × AreWrittenAndCounted mid (verdict_of line ∷ []) b between now × Appends between c (end_text now) × (bad ≡ now.bad)

pub input_ends : (r : Result Bool CheckFault) (mid : Tally) (bytes line : List ℕ) (from left a b c : Option (List ℕ))
    → Consumes from left bytes → IsAtEnd left → line ≡ held_after [] bytes → AreWrittenAndCounted no_lines (verdicts_after [] bytes) a b mid → IfOk r (LastReported mid line b c)
    → IfOk r (λ bad. (bytes : List ℕ) × Consumes from left bytes × IsAtEnd left × Appends a c (report bytes) × (bad ≡ some_bad bytes))
input_ends (Err f) mid bytes line from left a b c consumed at_end same x y = tt
input_ends (Ok bad) mid bytes line from left a b c consumed at_end same x y =
    let now = y.0 in
    let ended : Ended (lines bytes) a y.1 now = ended_lines_reported bytes line a y.1 now same (reported_more no_lines mid now (verdicts_after [] bytes) (verdict_of line ∷ []) a b y.1 x y.2) in
    let last : Appends y.1 c (end_text (tally_after no_lines (verdicts (lines bytes)))) = subst (λ (text : List ℕ). Appends y.1 c text) ended.end y.3 in
    (bytes, consumed, at_end, Appends-append a y.1 c _ _ ended.text last, y.4 ∙ ended.bad)
