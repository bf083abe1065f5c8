-- What a line says, by what its bytes read as.
use Rattle.std.proofs.Common.{◌≡◌, ℕ, ◌<◌, ◌≤◌, List, [], ◌∷◌, length, nat_lt, Bool, true, false, Option, Some, None, Result, Ok, Err, refl, cond, codes, ap, subst, arith, IsUtf8}
use Rattle.std.proofs.lemmas.Bool.Decides.{nat_tests}
use Rattle.std.specs.Prelude.{⊤}
use Rattle.std.specs.Str.{is_utf8}
use Rattle.std.proofs.lemmas.Str.{IsUtf8-from_is_utf8, is_utf8-from_IsUtf8}
use Rattle.std.specs.Result.{result_ok}
use Rattle.serde_json.specs.Data.{Data}
use Rattle.serde_json.specs.Find.{get}
use Rattle.serde_json.specs.Read.{read}
use Rattle.plant_json_in.specs.{Around, AskedKind, ReadFault, FormatError, NodeKind, ◌>>=◌, Reports, IsReported, is_reported, format_error_is_reported, fields_of, node_in, question_in}
use Rattle.plant_json_in.specs.declared.members.Member.TheVariants as m
use Rattle.plant_json_in.specs.declared.question_tables.AskedKind.TheVariants as asked
use Rattle.plant_json_in.specs.declared.question_tables.QuestionKind.TheVariants as q
use Rattle.plant_json_in.specs.declared.format_errors.ShapeError.TheVariants as shape_error
use Rattle.plant_json_in.specs.declared.format_errors.FormatError.TheVariants as format_error
use Rattle.plant_json_in.specs.declared.format_errors.ReadFault.TheVariants as fault
use Rattle.plant_json_in.proofs.FieldsAreTyped.{Good, valid_bind, valid_map, good_object, only_fails, ask_fails}
use Rattle.plant_json_in.proofs.QuestionsAreReported.{question_good}
use Rattle.plant_json_in.specs.{check_of, checked_in}
use Rattle.plant_json_in.proofs.ChecksAreTyped.{check_valid}
use Rattle.plant_text.specs.{kind_at, asked_by, question_line, value_says, checked_by, IsProblemOf, longest_line, kind_around, or_no_json, line_says, line_of, text_checked, value_in}
use Rattle.plant_text.specs.declared.read.Line.{Line}
use Rattle.plant_text.specs.declared.read.Line.TheVariants as L

pub at_value : (bytes : List ℕ) (d : Data) → length bytes ≤ longest_line → IsUtf8 bytes → read bytes ≡ Some d → value_in bytes ≡ Ok d
unfolding value_in
at_value bytes d l u e =
    let short : nat_lt longest_line (length bytes) ≡ false = grind (arith, nat_tests) in
    rw (short, is_utf8-from_IsUtf8 bytes u, e) refl

pub too_long : (bytes : List ℕ) → longest_line < length bytes → value_in bytes ≡ Err format_error.TooLong
unfolding value_in
too_long bytes h =
    let long : nat_lt longest_line (length bytes) ≡ true = grind (arith, nat_tests) in
    rw long refl

by_case : (b : Bool) (o : Option Data) → (b ≡ true → o ≡ None) → or_no_json (cond b o None) ≡ Err format_error.NoJson
by_case true o h = ap or_no_json (h refl)
by_case false o h = refl

pub at_refusal : (bytes : List ℕ) → length bytes ≤ longest_line → (IsUtf8 bytes → read bytes ≡ None) → value_in bytes ≡ Err format_error.NoJson
unfolding value_in
at_refusal bytes l h =
    let short : nat_lt longest_line (length bytes) ≡ false = grind (arith, nat_tests) in
    rw short (by_case (is_utf8 bytes) (read bytes) (λ u. h (IsUtf8-from_is_utf8 bytes u)))

-- ---- what a text with this value, or this problem, says and asks to check

pub says_value : (bytes : List ℕ) (d : Data) → value_in bytes ≡ Ok d → line_says bytes ≡ value_says d
unfolding line_says
says_value bytes d e = rw e refl

pub says_problem : (bytes : List ℕ) (p : FormatError) → value_in bytes ≡ Err p → line_says bytes ≡ Err p
unfolding line_says
says_problem bytes p e = rw e refl

pub says_long : (bytes : List ℕ) → longest_line < length bytes → line_says bytes ≡ Err format_error.TooLong
says_long bytes h = says_problem bytes format_error.TooLong (too_long bytes h)

pub problem_reported : (f : ReadFault) (bytes : List ℕ) → IsProblemOf f (value_in bytes) → Reports {T = Line} (Err f) (line_says bytes)
problem_reported (fault.Reported p) bytes e = says_problem bytes p e
problem_reported fault.Memory bytes e = tt

pub checks_value : (bytes : List ℕ) (d : Data) → value_in bytes ≡ Ok d → text_checked bytes ≡ checked_in d
unfolding text_checked
checks_value bytes d e = rw e refl

pub checks_reading : (bytes : List ℕ) → text_checked bytes ≡ checked_by (value_in bytes)
unfolding text_checked
checks_reading bytes = refl

pub line_long : (bytes : List ℕ) → longest_line < length bytes → line_of bytes ≡ None
line_long bytes h = ap result_ok (says_long bytes h)

then_made : {A B : Type 0} (r : Result A FormatError) (f : A → B) → Good format_error_is_reported (λ x. ⊤) r → Good format_error_is_reported (λ x. ⊤) (r >>= (λ x. Ok (f x)))
then_made r f h = valid_bind format_error_is_reported _ r _ (valid_map format_error_is_reported (λ x. ⊤) _ r (λ x z. tt) h)

-- ---- all that is asked

around_valid : (around : Around) (d : Data) (o : Option NodeKind) → Good format_error_is_reported (λ x. ⊤) (kind_around around o >>= (λ kind. question_in kind d >>= (λ question. Ok (L.Question question))))
around_valid around d None = refl
around_valid around d (Some node) = then_made (question_in (q.Around around node) d) L.Question (question_good (q.Around around node) d)

asked_valid : (d : Data) (o : Option AskedKind) → kind_at d ≡ o → Good format_error_is_reported (λ x. ⊤) (asked_by o d)
asked_valid d None e = good_object {A = Line} (λ x. ⊤) (fields_of (m.Ask ∷ []) d >>= (λ fs. Err shape_error.Malformed)) (valid_bind is_reported (λ x. ⊤) (fields_of (m.Ask ∷ []) d) (λ fs. Err shape_error.Malformed)
    (valid_map is_reported (λ fs. ⊥) (λ fs. Good {A = Line} is_reported (λ x. ⊤) (Err shape_error.Malformed)) (fields_of (m.Ask ∷ []) d) (λ fs z. absurd z) (only_fails m.Ask d (ask_fails (get (codes "ask") d) e))))
asked_valid d (Some asked.Check) e = then_made (check_of d) _ (valid_map format_error_is_reported _ (λ x. ⊤) (check_of d) (λ x h. tt) (check_valid d))
asked_valid d (Some (asked.About topic)) e = then_made (question_in (q.About topic) d) L.Question (question_good (q.About topic) d)
asked_valid d (Some (asked.List list)) e = then_made (question_in (q.List list) d) L.Question (question_good (q.List list) d)
asked_valid d (Some (asked.Around around)) e = around_valid around d (node_in d)

reported_from : (r : Result Line ReadFault) (s : Result Line FormatError) → Reports r s → Good format_error_is_reported (λ x. ⊤) s → IsReported r
reported_from (Ok x) s e h = tt
reported_from (Err (fault.Reported p)) s e h = subst (λ (s : Result Line FormatError). Good format_error_is_reported (λ x. ⊤) s) e h
reported_from (Err fault.Memory) s e h = tt

-- where an object asks for nothing, its problem says what is wrong
pub asked_reported : (d : Data) (r : Result Line ReadFault) → Reports r (question_line d) → IsReported r
asked_reported d r e = reported_from r (question_line d) e (asked_valid d (kind_at d) refl)
