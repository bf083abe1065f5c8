-- The lines are std's lines of the text, but for an empty last part.
use Rattle.std.proofs.Common.{◌≡◌, ℕ, ◌==◌, List, [], ◌∷◌, ◌++◌, length, Bool, true, false, nat_eq, cond, Option, refl, sym, ap, ◌∙◌, append_assoc, ◌||◌, subst, arith, append-nil}
use Rattle.std.proofs.lemmas.List.{map-append}
use Rattle.std.proofs.lemmas.Bool.Decides.{nat_tests}
use Rattle.std.specs.List.{slice_split, onto_first}
use Rattle.std.specs.Io.KnownBytes.{Appends}
use Rattle.std.specs.Str.Lines.{strip_carriage_return, lines_of_parts, lines}
use Rattle.plant_base.specs.{State}
use Rattle.plant_keeper.specs.{States}
use Rattle.plant_text.specs.{Entry, nothing, entry_of, entries, ended_from, part_from, ended_lines, all_lines, texts, some_refused, AreAnswered}
use Rattle.plant_text.proofs.BufferSuffices.{by_bool}
use Rattle.plant_text.proofs.TurnEnds.{entry_empty}
use Rattle.plant_text.proofs.RepliesConcatenate.{texts-append, fold-append, some_refused-append, or_false}

abbrev is_lf : ℕ → Bool
is_lf b = b == 10

-- p before the first part
abbrev glue : List ℕ → List (List ℕ) → List (List ℕ)
glue p [] = p ∷ []
glue p (q ∷ qs) = (p ++ q) ∷ qs

abbrev last_of : List ℕ → List (List ℕ)
last_of x = cond (nat_eq (length x) 0) [] (x ∷ [])

-- a split has a first part
abbrev First : List (List ℕ) → Type 0
First qs = (q : List ℕ) × (more : List (List ℕ)) × (qs ≡ q ∷ more)

first_part : (bs : List ℕ) → First (slice_split is_lf bs)
first_part [] = ([], [], refl)
first_part (b ∷ bs) =
    let f = first_part bs in
    by_bool (λ v. First (cond v ([] ∷ slice_split is_lf bs) (onto_first b (slice_split is_lf bs)))) ([], slice_split is_lf bs, refl) (b ∷ f.0, f.1, ap (onto_first b) f.2) (nat_eq b 10)

after_lf : (x : List ℕ) (qs : List (List ℕ)) → First qs → lines_of_parts (x ∷ qs) ≡ strip_carriage_return x ∷ lines_of_parts qs
after_lf x qs f = rw f.2 refl

glue_nothing : (qs : List (List ℕ)) → First qs → glue [] qs ≡ qs
glue_nothing qs f = rw f.2 refl

glue_byte : (p : List ℕ) (b : ℕ) (qs : List (List ℕ)) → First qs → glue p (onto_first b qs) ≡ glue (p ++ b ∷ []) qs
glue_byte p b qs f = rw f.2 (ap (λ x. x ∷ f.1) (sym (append_assoc p (b ∷ []) f.0)))

split_lines : (p bs : List ℕ) → lines_of_parts (glue p (slice_split is_lf bs)) ≡ ended_from p bs ++ last_of (part_from p bs)
split_lines p [] = ap last_of (append-nil p)
split_lines p (b ∷ bs) =
    let f = first_part bs in
    by_bool (λ v. lines_of_parts (glue p (cond v ([] ∷ slice_split is_lf bs) (onto_first b (slice_split is_lf bs))))
    ≡ cond v (strip_carriage_return p ∷ ended_from [] bs) (ended_from (p ++ b ∷ []) bs) ++ last_of (cond v (part_from [] bs) (part_from (p ++ b ∷ []) bs)))
    (after_lf (p ++ []) (slice_split is_lf bs) f ∙ ap (λ x. strip_carriage_return x ∷ lines_of_parts (slice_split is_lf bs)) (append-nil p)
    ∙ ap (λ ls. strip_carriage_return p ∷ ls) (ap lines_of_parts (sym (glue_nothing (slice_split is_lf bs) f)) ∙ split_lines [] bs))
    (ap lines_of_parts (glue_byte p b (slice_split is_lf bs) f) ∙ split_lines (p ++ b ∷ []) bs) (nat_eq b 10)

pub lines_are : (bytes : List ℕ) → lines bytes ≡ ended_lines bytes ++ last_of (part_from [] bytes)
lines_are bytes = ap lines_of_parts (sym (glue_nothing (slice_split is_lf bytes) (first_part bytes))) ∙ split_lines [] bytes

-- ---- an empty last part says nothing

reported_trim : (k : ℕ) (s : State) (es : List Entry) (a b : Option (List ℕ)) (represents : States) (p q : Bool) → AreAnswered k s (es ++ nothing ∷ []) a b represents p q → AreAnswered k s es a b represents p q
reported_trim k s es a b represents p q x = record {
  text = subst (λ (text : List ℕ). Appends a b text) (texts-append k s es (nothing ∷ []) ∙ append-nil (texts k s es)) x.text;
  state = subst represents (fold-append s es (nothing ∷ [])) x.state;
  refused = x.refused ∙ ap (λ v. p || v) (some_refused-append k s es (nothing ∷ []) ∙ or_false (some_refused k s es));
}

reported_last : (k : ℕ) (s : State) (ls : List (List ℕ)) (x : List ℕ) (a b : Option (List ℕ)) (represents : States) (p q : Bool) → AreAnswered k s (entries ls ++ entry_of x ∷ []) a b represents p q
    → (v : Bool) → nat_eq (length x) 0 ≡ v → AreAnswered k s (entries (ls ++ cond v [] (x ∷ []))) a b represents p q
reported_last k s ls x a b represents p q reported true e =
    let empty : length x ≡ 0 = grind (arith, nat_tests) in
    rw (append-nil ls) (reported_trim k s (entries ls) a b represents p q (subst (λ (e : Entry). AreAnswered k s (entries ls ++ e ∷ []) a b represents p q) (entry_empty x empty) reported))
reported_last k s ls x a b represents p q reported false e = rw (map-append entry_of ls (x ∷ [])) reported

pub reported_lines : (k : ℕ) (s : State) (bytes : List ℕ) (a b : Option (List ℕ)) (represents : States) (p q : Bool) → AreAnswered k s (entries (all_lines bytes)) a b represents p q → AreAnswered k s (entries (lines bytes)) a b represents p q
reported_lines k s bytes a b represents p q x =
    let parts = rw (map-append entry_of (ended_lines bytes) (part_from [] bytes ∷ [])) at x in
    rw (lines_are bytes) (reported_last k s (ended_lines bytes) (part_from [] bytes) a b represents p q parts (nat_eq (length (part_from [] bytes)) 0) refl)
