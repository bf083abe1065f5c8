-- Sentences that are written one after the other.
use Rattle.std.proofs.Common.{◌≡◌, ◌∙◌, refl, ◌+◌, ◌<◌, ℕ, length, take, get_or, List, [], ◌∷◌, ◌++◌, Option, Result, Ok, Err, ap, sym, subst, append-nil, append_assoc, IfSome, OnOk, Some, None}
use Rattle.std.specs.Io.KnownBytes.{Appends}
use Rattle.std.proofs.KnownBytes.{Appends-trans}
use Rattle.std.proofs.lemmas.List.{take_more}
use Rattle.plant_text.specs.{with_lf}
use Rattle.plant_check_rules.specs.{Rule}
use Rattle.plant_check.specs.{Tested}
use Rattle.file_reports.specs.declared.open_error.OpenError.{OpenError}
use Rattle.file_reports.specs.{IsErrorText, error_of, opening_text, IsFirstSentence, WritesOpening, found_text, found_in, each_text, open_error_text}

pub each_more : (t : Tested) (rs : List Rule) (r : Rule) → each_text t (rs ++ r ∷ []) ≡ each_text t rs ++ found_text (found_in t r)
each_more t [] r = append-nil (found_text (found_in t r))
each_more t (q ∷ rs) r = ap (λ l. found_text (found_in t q) ++ l) (each_more t rs r) ∙ sym (append_assoc (found_text (found_in t q)) (each_text t rs) (found_text (found_in t r)))

-- a rule more is written
pub each_row : (t : Tested) (rs : List Rule) (i : ℕ) (d : Rule) (a b c : Option (List ℕ)) → i < length rs → Appends a b (each_text t (take i rs))
    → Appends b c (found_text (found_in t (get_or rs i d))) → Appends a c (each_text t (take (i + 1) rs))
each_row t rs i d a b c within before now =
    subst (λ (l : List ℕ). Appends a c l) (sym (ap (each_text t) (take_more rs i d within) ∙ each_more t (take i rs) (get_or rs i d))) (Appends-trans a b c _ _ before now)

-- ---- what is written after something

pub reported_after : {A E : Type 0} (r : Result A E) (a b c : Option (List ℕ)) (first text : List ℕ) → Appends a b first → OnOk r (Appends b c text) → OnOk r (Appends a c (first ++ text))
reported_after (Ok x) a b c first text one reported = Appends-trans a b c first text one reported
reported_after (Err e) a b c first text one reported = tt

pub nothing_after : (a b : Option (List ℕ)) (text : List ℕ) → Appends a b text → Appends a b (text ++ [])
nothing_after a b text reported = subst (λ (l : List ℕ). Appends a b l) (sym (append-nil text)) reported

-- ---- the first sentence, and what is written after it

-- a text of which this holds was written, with its LF
pub some_text : {A E : Type 0} (r : Result A E) (P : List ℕ → Type 0) (a b : Option (List ℕ)) (text : List ℕ) → P text → OnOk r (Appends a b (with_lf text)) → OnOk r ((text : List ℕ) × P text × Appends a b (with_lf text))
some_text (Ok x) P a b text holds written = (text, holds, written)
some_text (Err e) P a b text holds written = tt

-- nothing goes before that the file opens
pub opens_alone : {A E : Type 0} (r : Result A E) (a b : Option (List ℕ)) → OnOk r (Appends a b (opening_text None)) → OnOk r (WritesOpening None a b)
opens_alone (Ok x) a b written = ([], refl, written)
opens_alone (Err e) a b written = tt

-- the cause is written after the sentence that the file doesn't open
pub cause_behind : {A E : Type 0} (r : Result A E) (o : OpenError) (a b c : Option (List ℕ)) → ((text : List ℕ) × IsErrorText (error_of o) text × Appends a b (with_lf text))
    → OnOk r (Appends b c (with_lf (open_error_text o))) → OnOk r (WritesOpening (Some o) a c)
cause_behind (Ok x) o a b c first written = (with_lf first.0, (first.0, first.1, refl), Appends-trans a b c (with_lf first.0) (with_lf (open_error_text o)) first.2 written)
cause_behind (Err e) o a b c first written = tt

-- what the file holds is written after that
pub held_behind : {A E : Type 0} (r : Result A E) (o : Option OpenError) (a b c : Option (List ℕ)) (held : List ℕ) → WritesOpening o a b → OnOk r (Appends b c held)
    → OnOk r ((sentence : List ℕ) × IsFirstSentence o sentence × Appends a c (sentence ++ opening_text o ++ held))
held_behind (Ok x) o a b c held first written = (first.0, first.1, Appends-trans a b c (first.0 ++ opening_text o) held first.2 written)
held_behind (Err e) o a b c held first written = tt

-- ---- what is shown

pub shown_reported : {A E : Type 0} (r : Result A E) (o a b : Option (List ℕ)) (bytes reported : List ℕ) → IfSome o (λ bs. bytes ≡ bs) → reported ≡ bytes → OnOk r (Appends a b (with_lf reported))
    → OnOk r (IfSome o (λ text. Appends a b (with_lf text)))
shown_reported (Ok x) None a b bytes reported shows same reports = tt
shown_reported (Ok x) (Some text) a b bytes reported shows same reports = subst (λ (l : List ℕ). Appends a b (with_lf l)) (same ∙ shows) reports
shown_reported (Err e) o a b bytes reported shows same reports = tt
