-- A check that ends early has written a front of the report.
use Rattle.std.proofs.Common.{◌≡◌, ℕ, ◌<◌, List, [], ◌∷◌, ◌++◌, length, Bool, Option, Some, None, Result, Ok, Err, refl, sym, ap, ◌∙◌, append_assoc, arith, subst, append-nil, IfErr}
use Rattle.std.specs.Io.KnownBytes.{Appends, Consumes, IsAtEnd}
use Rattle.plant_base.specs.{Agrees}
use Rattle.plant_text.specs.{held_after, AppendsPrefix}
use Rattle.plant_text.proofs.BufferSuffices.{each-append}
use Rattle.plant_text.proofs.KnownBytes.{Appends-nil, Appends-append}
use Rattle.desk_cli.specs.{CheckFault}
use Rattle.desk_cli.specs.declared.check_fault.CheckFault.TheVariants as fault
use Rattle.line_check.specs.declared.judge.Verdict.{Verdict}
use Rattle.line_check.specs.declared.lines.Tally.{Tally}
use Rattle.line_check.specs.{texts, tally_with, tally_after, end_text, no_lines, report, verdicts_after, AppendsFront, AreWrittenAndCounted, EndsEarly, verdict_of}
use Rattle.line_check.proofs.ReportedLines.{input_ends, texts-append, LastReported}

-- ---- fronts

front_behind : (s t : List ℕ) (a b c : Option (List ℕ)) → Appends a b s → AppendsFront b c t → AppendsFront a c (s ++ t)
front_behind s t a b c written x =
    (s ++ x.0, x.1, ap (λ u. s ++ u) x.2 ∙ sym (append_assoc s x.0 x.1), Appends-append a b c s x.0 written x.3)

prefix_behind : (s t : List ℕ) (a b c : Option (List ℕ)) → Appends a b s → AppendsPrefix b c t → AppendsPrefix a c (s ++ t)
prefix_behind s t a b c written x =
    (s ++ x.0, x.1, ap (λ u. s ++ u) x.2 ∙ sym (append_assoc s x.0 x.1), x.3, Appends-append a b c s x.0 written x.4)

front_before : (t more : List ℕ) (a c : Option (List ℕ)) → AppendsFront a c t → AppendsFront a c (t ++ more)
front_before t more a c x = (x.0, x.1 ++ more, ap (λ u. u ++ more) x.2 ∙ append_assoc x.0 x.1 more, x.3)

longer : (xs ys : List ℕ) → 0 < length xs → 0 < length (xs ++ ys)
longer (x ∷ xs) ys some = omega arith
longer [] ys some = absurd (omega (arith, some))

prefix_before : (t more : List ℕ) (a c : Option (List ℕ)) → AppendsPrefix a c t → AppendsPrefix a c (t ++ more)
prefix_before t more a c x = (x.0, x.1 ++ more, ap (λ u. u ++ more) x.2 ∙ append_assoc x.0 x.1 more, longer x.1 more x.3, x.4)

-- what was written before goes before the front
pub early_behind : (f : CheckFault) (s t : List ℕ) (a b c : Option (List ℕ)) → Appends a b s → EndsEarly f b c t → EndsEarly f a c (s ++ t)
early_behind fault.Open s t a b c written ends = ends
early_behind fault.Read s t a b c written ends = front_behind s t a b c written ends
early_behind fault.Write s t a b c written ends = prefix_behind s t a b c written ends
early_behind fault.Memory s t a b c written ends = front_behind s t a b c written ends

-- a front of a text is one of a longer text
pub early_before : (f : CheckFault) (t more : List ℕ) (a c : Option (List ℕ)) → EndsEarly f a c t → EndsEarly f a c (t ++ more)
early_before fault.Open t more a c ends = ends
early_before fault.Read t more a c ends = front_before t more a c ends
early_before fault.Write t more a c ends = prefix_before t more a c ends
early_before fault.Memory t more a c ends = front_before t more a c ends

-- nothing is a front
pub nothing_read : (t : List ℕ) (a : Option (List ℕ)) → EndsEarly fault.Read a a t
nothing_read t a = ([], t, refl, Appends-nil a)

pub nothing_held : (t : List ℕ) (a : Option (List ℕ)) → EndsEarly fault.Memory a a t
nothing_held t a = ([], t, refl, Appends-nil a)

-- ---- the report

-- the report on an input, by the lines that end in it and by what follows the last
report_is : (bytes line : List ℕ) → line ≡ held_after [] bytes
    → texts 0 (verdicts_after [] bytes) ++ (texts (tally_after no_lines (verdicts_after [] bytes)).lines (verdict_of line ∷ [])
    ++ end_text (tally_with (tally_after no_lines (verdicts_after [] bytes)) (verdict_of line))) ≡ report bytes
report_is bytes line same =
    let mid : Tally = tally_after no_lines (verdicts_after [] bytes) in
    let s : List ℕ = texts 0 (verdicts_after [] bytes) in
    let t : List ℕ = texts mid.lines (verdict_of line ∷ []) in
    let now : Tally = tally_with mid (verdict_of line) in
    let e : List ℕ = end_text now in
    let last : LastReported mid line (Some s) (Some ((s ++ t) ++ e)) now.bad =
    (now, Some (s ++ t), record { text = refl; tally = refl }, refl, refl) in
    let ended = input_ends (Ok now.bad) mid bytes line (Some bytes) (Some []) (Some []) (Some s) (Some ((s ++ t) ++ e))
    (sym (append-nil bytes)) refl same (record { text = refl; tally = refl }) last in
    let whole : ended.0 ≡ bytes = sym (ended.1 ∙ append-nil ended.0) in
    sym (append_assoc s t e) ∙ ended.3 ∙ ap report whole

-- the lines that end in a front of an input begin the report on it
report_begins : (bytes more : List ℕ) → (rest : List ℕ) × (report (bytes ++ more) ≡ texts 0 (verdicts_after [] bytes) ++ rest)
report_begins bytes more =
    let all = bytes ++ more in
    let vs = verdicts_after [] bytes in
    let ws = verdicts_after (held_after [] bytes) more in
    let end = texts (tally_after no_lines (verdicts_after [] all)).lines (verdict_of (held_after [] all) ∷ [])
    ++ end_text (tally_with (tally_after no_lines (verdicts_after [] all)) (verdict_of (held_after [] all))) in
    let parts : texts 0 (verdicts_after [] all) ≡ texts 0 vs ++ texts (tally_after no_lines vs).lines ws =
    ap (texts 0) (each-append verdict_of [] bytes more) ∙ texts-append no_lines vs ws in (
      texts (tally_after no_lines vs).lines ws ++ end,
      sym (report_is all (held_after [] all) refl) ∙ ap (λ u. u ++ end) parts ∙ append_assoc (texts 0 vs) (texts (tally_after no_lines vs).lines ws) end,
    )

-- an end that came early after a line
pub early_behind_line : (r : Result Bool CheckFault) (t now : Tally) (v : Verdict) (a b c : Option (List ℕ)) → AreWrittenAndCounted t (v ∷ []) a b now
    → IfErr r (λ f. EndsEarly f b c (end_text now)) → IfErr r (λ f. EndsEarly f a c (texts t.lines (v ∷ []) ++ end_text (tally_with t v)))
early_behind_line (Ok bad) t now v a b c told ends = tt
early_behind_line (Err f) t now v a b c told ends =
    early_behind f (texts t.lines (v ∷ [])) (end_text (tally_with t v)) a b c told.text
    (subst (λ (u : Tally). EndsEarly f b c (end_text u)) told.tally ends)

-- the lines of a piece, ended early in one of its bytes
pub early_at_byte : (f : CheckFault) (t mid : Tally) (first held done byte rest all : List ℕ) (a b c : Option (List ℕ))
    → AreWrittenAndCounted t (verdicts_after first done) a b mid → held ≡ held_after first done
    → EndsEarly f b c (texts mid.lines (verdicts_after held byte)) → all ≡ (done ++ byte) ++ rest → EndsEarly f a c (texts t.lines (verdicts_after first all))
early_at_byte f t mid first held done byte rest all a b c told same ends is =
    let front = done ++ byte in
    let vs = verdicts_after first done in
    let parts : texts t.lines (verdicts_after first front) ≡ texts t.lines vs ++ texts mid.lines (verdicts_after held byte) =
    ap (texts t.lines) (each-append verdict_of first done byte) ∙ texts-append t vs (verdicts_after (held_after first done) byte)
    ∙ ap (λ (u : Tally). texts t.lines vs ++ texts u.lines (verdicts_after (held_after first done) byte)) (sym told.tally)
    ∙ ap (λ h. texts t.lines vs ++ texts mid.lines (verdicts_after h byte)) (sym same) in
    let whole : texts t.lines (verdicts_after first all) ≡ texts t.lines (verdicts_after first front)
    ++ texts (tally_after t (verdicts_after first front)).lines (verdicts_after (held_after first front) rest) =
    ap (λ bs. texts t.lines (verdicts_after first bs)) is
    ∙ ap (texts t.lines) (each-append verdict_of first front rest) ∙ texts-append t (verdicts_after first front) (verdicts_after (held_after first front) rest) in
    let early : EndsEarly f a c (texts t.lines (verdicts_after first front)) =
    subst (λ (u : List ℕ). EndsEarly f a c u) (sym parts) (early_behind f (texts t.lines vs) (texts mid.lines (verdicts_after held byte)) a b c told.text ends) in
    subst (λ (u : List ℕ). EndsEarly f a c u) (sym whole)
    (early_before f (texts t.lines (verdicts_after first front))
    (texts (tally_after t (verdicts_after first front)).lines (verdicts_after (held_after first front) rest)) a c early)

-- an input goes on after what was consumed of it
goes_on : (from left : Option (List ℕ)) (bytes : List ℕ) → Consumes from left bytes → (more : List ℕ) × Agrees from (bytes ++ more)
goes_on None left bytes consumed = ([], tt)
goes_on (Some xs) (Some ys) bytes consumed = (ys, sym consumed)
goes_on (Some xs) None bytes consumed = absurd consumed

-- and is what was consumed of it where nothing is left
all_consumed : (from left : Option (List ℕ)) (bytes : List ℕ) → Consumes from left bytes → IsAtEnd left → Agrees from bytes
all_consumed None left bytes consumed end = tt
all_consumed (Some xs) (Some ys) bytes consumed end = sym (append-nil bytes) ∙ ap (λ u. bytes ++ u) (sym end) ∙ sym consumed
all_consumed (Some xs) None bytes consumed end = absurd consumed

-- ---- the end of a check

-- what is known of a check that ended early
abbrev pub EndsEarlyOver : Option (List ℕ) → Option (List ℕ) → Option (List ℕ) → CheckFault → Type 0
EndsEarlyOver from a c f = (bytes : List ℕ) × Agrees from bytes × EndsEarly f a c (report bytes)

-- ... while lines of what was consumed were reported
pub early_within : (f : CheckFault) (from left a c : Option (List ℕ)) (bytes : List ℕ) → Consumes from left bytes
    → EndsEarly f a c (texts 0 (verdicts_after [] bytes)) → EndsEarlyOver from a c f
early_within f from left a c bytes consumed ends =
    let more = goes_on from left bytes consumed in
    let begins = report_begins bytes more.0 in
    (bytes ++ more.0, more.1, subst (λ (u : List ℕ). EndsEarly f a c u) (sym begins.1) (early_before f (texts 0 (verdicts_after [] bytes)) begins.0 a c ends))

-- ... at a read that failed
pub early_at_read : (from left a c : Option (List ℕ)) (bytes : List ℕ) (mid : Tally) → Consumes from left bytes
    → AreWrittenAndCounted no_lines (verdicts_after [] bytes) a c mid → EndsEarlyOver from a c fault.Read
early_at_read from left a c bytes mid consumed told =
    early_within fault.Read from left a c bytes consumed (texts 0 (verdicts_after [] bytes), [], sym (append-nil (texts 0 (verdicts_after [] bytes))), told.text)

-- ... in a piece
pub early_in_piece : (f : CheckFault) (from left a b c : Option (List ℕ)) (bytes held piece : List ℕ) (mid : Tally) → Consumes from left (bytes ++ piece)
    → held ≡ held_after [] bytes → AreWrittenAndCounted no_lines (verdicts_after [] bytes) a b mid
    → EndsEarly f b c (texts mid.lines (verdicts_after held piece)) → EndsEarlyOver from a c f
early_in_piece f from left a b c bytes held piece mid consumed same told ends =
    let vs = verdicts_after [] bytes in
    let parts : texts 0 (verdicts_after [] (bytes ++ piece)) ≡ texts 0 vs ++ texts mid.lines (verdicts_after held piece) =
    ap (texts 0) (each-append verdict_of [] bytes piece) ∙ texts-append no_lines vs (verdicts_after (held_after [] bytes) piece)
    ∙ ap (λ (t : Tally). texts 0 vs ++ texts t.lines (verdicts_after (held_after [] bytes) piece)) (sym told.tally)
    ∙ ap (λ h. texts 0 vs ++ texts mid.lines (verdicts_after h piece)) (sym same) in
    early_within f from left a c (bytes ++ piece) consumed
    (subst (λ (u : List ℕ). EndsEarly f a c u) (sym parts) (early_behind f (texts 0 vs) (texts mid.lines (verdicts_after held piece)) a b c told.text ends))

-- ... in the last line or at the end
pub early_at_end : (r : Result Bool CheckFault) (from left a b c : Option (List ℕ)) (bytes line : List ℕ) (mid : Tally) → Consumes from left bytes → IsAtEnd left
    → line ≡ held_after [] bytes → AreWrittenAndCounted no_lines (verdicts_after [] bytes) a b mid
    → IfErr r (λ f. EndsEarly f b c (texts mid.lines (verdict_of line ∷ []) ++ end_text (tally_with mid (verdict_of line)))) → IfErr r (EndsEarlyOver from a c)
early_at_end (Ok bad) from left a b c bytes line mid consumed at_end same told ends = tt
early_at_end (Err f) from left a b c bytes line mid consumed at_end same told ends =
    let s = texts 0 (verdicts_after [] bytes) in
    let t = texts mid.lines (verdict_of line ∷ []) ++ end_text (tally_with mid (verdict_of line)) in
    let parts : s ++ t ≡ report bytes =
    ap (λ (u : Tally). s ++ (texts u.lines (verdict_of line ∷ []) ++ end_text (tally_with u (verdict_of line)))) told.tally ∙ report_is bytes line same in (
      bytes,
      all_consumed from left bytes consumed at_end,
      subst (λ (u : List ℕ). EndsEarly f a c u) parts (early_behind f s t a b c told.text ends),
    )
