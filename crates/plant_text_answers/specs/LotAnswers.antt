-- The JSON trees of answers about lots.
use Rattle.std.specs.Prelude.{List, map, codes}
use Rattle.serde_json.specs.Data.{Data, boolean, string, array, object, member, no_members}
use Rattle.serde_json.specs.View.{items_of}
use Rattle.plant_questions.specs.{LotAnswer, StandingLot}
use Rattle.plant_text_answers.specs.Natural.{natural}
use Rattle.plant_text_answers.specs.Parts.{sublots_data}

abbrev pub lot_data : LotAnswer → Data
lot_data a = object (member (codes "def") (string a.def) (member (codes "held") (boolean a.held) (member (codes "lot") (string a.lot)
    (member (codes "stock") (natural a.stock) (member (codes "sublots") (array (sublots_data a.sublots)) no_members)))))

-- a lot as in the answer about it, and whether an open recall reaches it
abbrev pub standing_data : StandingLot → Data
standing_data s = object (member (codes "def") (string s.known.def) (member (codes "held") (boolean s.known.held) (member (codes "lot") (string s.known.lot)
    (member (codes "recalled") (boolean s.recalled) (member (codes "stock") (natural s.known.stock) (member (codes "sublots") (array (sublots_data s.known.sublots)) no_members))))))

-- where goods are
abbrev pub stands_data : List StandingLot → Data
stands_data lots = object (member (codes "lots") (array (items_of (map standing_data lots))) no_members)
