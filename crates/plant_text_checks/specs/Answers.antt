-- What a check is answered: JSON trees, and their texts with no blanks.
use Rattle.std.specs.Prelude.{ℕ, List, true, false, codes, Option, Some, None}
use Rattle.serde_json.specs.Data.{Data, boolean, string, object, member, no_members}
use Rattle.serde_json.specs.Written.{compact_text}
use Rattle.plant_base.specs.{number_of, name_of, Refusal}
use Rattle.plant_base.specs.declared.refusal.Refusal.TheVariants.{BadForm}
use Rattle.plant_text_checks.specs.Reasons.{reason_text}
use Rattle.plant_text_checks.specs.declared.reason.Reason.{Reason}
use Rattle.plant_text_answers.specs.{natural}
use Rattle.plant_text_checks.specs.declared.answers.CheckAnswer.{CheckAnswer}
use Rattle.plant_text_checks.specs.declared.answers.CheckAnswer.TheVariants as answer

abbrev pub accepted_data : Data
accepted_data = object (member (codes "accepted") (boolean true) no_members)

-- the refusal, and the number of the item that is its cause, where one is
abbrev pub refused_data : Refusal → Option ℕ → Data
refused_data r None = object (member (codes "accepted") (boolean false) (member (codes "name") (string (name_of r)) (member (codes "refused") (natural (number_of r)) no_members)))
refused_data r (Some n) = object (member (codes "accepted") (boolean false) (member (codes "item") (natural n) (member (codes "name") (string (name_of r))
    (member (codes "refused") (natural (number_of r)) no_members))))

-- BadForm, and why
abbrev pub bad_form_data : Reason → Data
bad_form_data reason = object (member (codes "accepted") (boolean false) (member (codes "name") (string (name_of BadForm)) (member (codes "reason") (string (reason_text reason))
    (member (codes "refused") (natural (number_of BadForm)) no_members))))

-- the text of an answer, without its LF
unfoldable pub check_text : CheckAnswer → List ℕ
check_text answer.Accepted = compact_text accepted_data
check_text (answer.Refused refusal item) = compact_text (refused_data refusal item)
check_text (answer.BadForm reason) = compact_text (bad_form_data reason)
