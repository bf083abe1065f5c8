-- Where an object with the word of a question is none, its problem says what is wrong.
use Rattle.std.proofs.Common.{◌≡◌, [], ◌∷◌, true, Result, Ok, Err, IfErr}
use Rattle.std.specs.Prelude.{⊤}
use Rattle.serde_json.specs.Data.{Data}
use Rattle.plant_questions.specs.{Question}
use Rattle.plant_json_in.specs.{FormatError, QuestionKind, is_reported, format_error_is_reported, fields_of, none_other, question_members, question_in, shape_in}
use Rattle.plant_json_in.specs.declared.members.Member.TheVariants as m
use Rattle.plant_json_in.proofs.FieldsAreTyped.{Good, valid_bind, valid_map, good_object, fields_typed, none_other-valid}
use Rattle.plant_json_in.proofs.QuestionsAreMade.{question_made}

shape_good : (kind : QuestionKind) (d : Data) → Good is_reported (λ x. ⊤) (shape_in kind d)
shape_good kind d =
    let own = question_members kind in
    valid_bind is_reported (λ x. ⊤) (fields_of own d) _ (fields_typed own d _ (λ v.
    valid_bind is_reported (λ x. ⊤) (none_other (m.Ask ∷ []) own d) _ (valid_map is_reported (λ u. ⊤) _ (none_other (m.Ask ∷ []) own d) (λ u z. question_made kind v) (none_other-valid (m.Ask ∷ []) own d))))

pub question_good : (kind : QuestionKind) (d : Data) → Good format_error_is_reported (λ x. ⊤) (question_in kind d)
question_good kind d = good_object (λ x. ⊤) (shape_in kind d) (shape_good kind d)

reported_err : (r : Result Question FormatError) → Good format_error_is_reported (λ x. ⊤) r → IfErr r (λ p. format_error_is_reported p ≡ true)
reported_err (Ok x) h = tt
reported_err (Err p) h = h

pub question_reported : (kind : QuestionKind) (d : Data) → IfErr (question_in kind d) (λ p. format_error_is_reported p ≡ true)
question_reported kind d = reported_err (question_in kind d) (question_good kind d)
