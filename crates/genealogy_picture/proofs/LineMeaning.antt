-- What a line reports, by what its bytes read as.
use Rattle.std.proofs.Common.{◌≡◌, ℕ, List, Bool, true, false, Option, Some, None, Err, refl, cond, ap, IsUtf8}
use Rattle.std.specs.Str.{is_utf8}
use Rattle.std.proofs.lemmas.Str.{IsUtf8-from_is_utf8, is_utf8-from_IsUtf8}
use Rattle.serde_json.specs.Data.{Data}
use Rattle.serde_json.specs.Read.{read}
use Rattle.genealogy_svg.specs.declared.reported.Reported.{Reported}
use Rattle.genealogy_picture.specs.{answer_into, is_blank, line_into, text_into}
use Rattle.genealogy_picture.specs.declared.answers.LineError.TheVariants as line_error

pub at_value : (t : Reported) (line : List ℕ) (d : Data) → is_blank line ≡ false → IsUtf8 line → read line ≡ Some d → line_into t line ≡ answer_into t d
unfolding line_into
at_value t line d b u e = rw (b, is_utf8-from_IsUtf8 line u, e) refl

by_case : (t : Reported) (b : Bool) (o : Option Data) → (b ≡ true → o ≡ None) → text_into t (cond b o None) ≡ Err line_error.NoJson
by_case t true o h = ap (text_into t) (h refl)
by_case t false o h = refl

pub at_refusal : (t : Reported) (line : List ℕ) → is_blank line ≡ false → (IsUtf8 line → read line ≡ None) → line_into t line ≡ Err line_error.NoJson
unfolding line_into
at_refusal t line b h = rw b (by_case t (is_utf8 line) (read line) (λ u. h (IsUtf8-from_is_utf8 line u)))
