-- Which objects with the word of a question are one, and what is wrong with the others; and which parts of a path are one. Objects have no
-- note and no reference.
use Rattle.std.specs.Prelude.{ℕ, List, [], ◌∷◌, if◌then◌else◌, codes, Option, Some, None, option_and_then, is_some, Result}
use Rattle.serde_json.specs.Data.{Data}
use Rattle.serde_json.specs.Find.{get}
use Rattle.plant_questions.specs.{Question}
use Rattle.plant_json_in.specs.declared.fields.Field.{Field}
use Rattle.plant_json_in.specs.declared.format_errors.FormatError.{FormatError}
use Rattle.plant_json_in.specs.declared.format_errors.ShapeError.{ShapeError}
use Rattle.plant_json_in.specs.declared.members.Member.{Member}
use Rattle.plant_json_in.specs.declared.members.Member.TheVariants as m
use Rattle.plant_json_in.specs.declared.question_tables.NodeKind.{NodeKind}
use Rattle.plant_json_in.specs.declared.question_tables.NodeKind.TheVariants.{Lot, Batch}
use Rattle.plant_json_in.specs.declared.question_tables.QuestionKind.{QuestionKind}
use Rattle.plant_json_in.specs.Fields.{field_of_part, fields_of, none_other}
use Rattle.plant_json_in.specs.FormatErrors.{◌>>=◌, object, or_malformed}
use Rattle.plant_json_in.specs.QuestionTables.{question_members}
use Rattle.plant_json_in.specs.QuestionValues.{question_by}

-- the question of a kind that an object is, or its first flaw
abbrev pub shape_in : QuestionKind → Data → Result Question ShapeError
shape_in kind d = fields_of (question_members kind) d >>= (λ fs. none_other (m.Ask ∷ []) (question_members kind) d >>= (λ u. or_malformed (question_by kind fs)))

-- the question of a kind that an object with its word is, or its first problem
abbrev pub question_in : QuestionKind → Data → Result Question FormatError
question_in kind d = object (shape_in kind d)

-- whether an object names a lot or a batch
abbrev pub node_in : Data → Option NodeKind
node_in d =
    if is_some (get (codes "lot") d) then Some Lot else (
    if is_some (get (codes "batch") d) then Some Batch else
    None)

-- ---- paths

abbrev pub one_part : QuestionKind → Option Field → Option Question
one_part kind a = option_and_then (λ x. question_by kind (x ∷ [])) a

abbrev pub two_parts : QuestionKind → Option Field → Option Field → Option Question
two_parts kind a b = option_and_then (λ x. option_and_then (λ y. question_by kind (x ∷ y ∷ [])) b) a

abbrev pub question_of_members : QuestionKind → List Member → Option (List ℕ) → Option (List ℕ) → Option Question
question_of_members kind [] first second = question_by kind []
question_of_members kind (only ∷ []) first second = one_part kind (field_of_part only first)
question_of_members kind (one ∷ other ∷ []) first second = two_parts kind (field_of_part one first) (field_of_part other second)
question_of_members kind _ first second = None

-- the question of a kind whose members besides its word these parts of a path are
abbrev pub question_of_parts : QuestionKind → Option (List ℕ) → Option (List ℕ) → Option Question
question_of_parts kind first second = question_of_members kind (question_members kind) first second
