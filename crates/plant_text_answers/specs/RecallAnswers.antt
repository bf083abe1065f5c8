-- The JSON trees of answers about recalls.
use Rattle.std.specs.Prelude.{ℕ, Bool, List, codes, if◌then◌else◌}
use Rattle.serde_json.specs.Data.{Data, string, array, object, member, no_members}
use Rattle.plant_questions.specs.{RecallAnswer}
use Rattle.plant_text_answers.specs.TraceAnswers.{nodes_data}

abbrev pub state_name : Bool → List ℕ
state_name is_open = if is_open then codes "open" else codes "lifted"

abbrev pub recall_data : RecallAnswer → Data
recall_data a = object (member (codes "lot") (string a.lot) (member (codes "nodes") (array (nodes_data a.nodes)) (member (codes "recall") (string a.recall)
    (member (codes "state") (string (state_name a.is_open)) no_members))))
