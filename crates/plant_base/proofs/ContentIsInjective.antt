-- Two envelopes have equal content exactly where they are equal but for the reference.
use Rattle.std.proofs.Common.{◌≡◌, ◌∙◌, ℕ, true, List, [], ◌∷◌, ◌++◌, decimal, refl, sym, ap, ◌&&◌}
use Rattle.std.specs.Str.Parse.{digits_value}
use Rattle.std.proofs.lemmas.Fmt.{decimal_is_IsNumeral}
use Rattle.plant_base.specs.{HasValues, body_lines, content_lines, content_of, ContentIsInjective, lines_text, is_content, is_there}
use Rattle.plant_base.proofs.LinesRoundTrip.{cut, cut_lines, lines_bytes}
use Rattle.plant_base.proofs.LinesReadBack.{small_moment}
use Rattle.plant_base.proofs.LinesHaveNoLf.{AreLines, number_line, text_line}
use Rattle.plant_base.proofs.CommandsReadBack.{body_are, body_back, body_in}
use Rattle.plant_base.specs.declared.rows.RecipeLine.TheVariants as line
use Rattle.plant_base.specs.declared.commands.Command.{Command}
use Rattle.plant_base.specs.declared.commands.Command.TheVariants as body
use Rattle.plant_base.specs.declared.command.Envelope.{Envelope}

pub content_are : (e : Envelope) → HasValues e → AreLines (content_lines e)
content_are e v = (number_line e.at, (text_line e.by v.by, (text_line e.note v.note, body_are e.body v.body)))

-- the bytes of a content are those of texts, and LFs; there is one or more
pub content_written : (e : Envelope) → HasValues e → is_content (content_of e) ≡ true
unfolding content_of
content_written e v = λ i. some (decimal e.at) (lines_text (e.by ∷ e.note ∷ body_lines e.body)) i && lines_bytes (content_lines e) (content_are e v) i
  where
    some : (line rest : List ℕ) → is_there (line ++ 10 ∷ rest) ≡ true
    some [] rest = refl
    some (b ∷ bs) rest = refl

-- ---- what a content says is read from it

at_in : List (List ℕ) → ℕ
at_in [] = 0
at_in (at ∷ more) = digits_value 10 at

by_in : List (List ℕ) → List ℕ
by_in (at ∷ by ∷ more) = by
by_in _ = []

note_in : List (List ℕ) → List ℕ
note_in (at ∷ by ∷ note ∷ more) = note
note_in _ = []

command_in : List (List ℕ) → Command
command_in (at ∷ by ∷ note ∷ more) = body_in more
command_in _ = body_in []

-- equal contents have equal lines
same_lines : (e f : Envelope) → HasValues e → HasValues f → content_of e ≡ content_of f → content_lines e ≡ content_lines f
unfolding content_of
same_lines e f v w same = sym (cut_lines (content_lines e) (content_are e v)) ∙ ap cut same ∙ cut_lines (content_lines f) (content_are f w)

pub content_is_injective : ContentIsInjective
unfolding content_of at_in by_in note_in command_in
content_is_injective e f v m w n = (
  λ same.
      let ls = same_lines e f v w same in
      let at : e.at ≡ f.at = sym (decimal_is_IsNumeral e.at (small_moment e.at v.at)).1 ∙ ap at_in ls ∙ (decimal_is_IsNumeral f.at (small_moment f.at w.at)).1 in
      let by : e.by ≡ f.by = ap by_in ls in
      let note : e.note ≡ f.note = ap note_in ls in
      let command : e.body ≡ f.body = sym (body_back e.body v.body m) ∙ ap command_in ls ∙ body_back f.body w.body n in
      λ i. record { at = at i; by = by i; note = note i; reference = f.reference; body = command i },
  λ same. ap content_of same,
)
