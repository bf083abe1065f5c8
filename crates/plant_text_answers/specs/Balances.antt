-- The JSON trees of balances of lots, and of what an order needs.
use Rattle.std.specs.Prelude.{List, codes}
use Rattle.serde_json.specs.Data.{Data, boolean, string, array, object, member, no_members}
use Rattle.plant_questions.specs.{LotBalance, LotFlows, Need}
use Rattle.plant_text_answers.specs.ListAnswers.{rows_data}
use Rattle.plant_text_answers.specs.Natural.{natural}
use Rattle.plant_text_answers.specs.Parts.{sublots_data, unit_or_null}

-- what entered a lot, by how
abbrev pub entered_data : LotFlows → Data
entered_data f = object (member (codes "merged") (natural f.merged_in) (member (codes "produced") (natural f.produced) (member (codes "received") (natural f.received)
    (member (codes "split") (natural f.split_in) no_members))))

-- what left it, by how
abbrev pub left_data : LotFlows → Data
left_data f = object (member (codes "consumed") (natural f.consumed) (member (codes "merged") (natural f.merged_out) (member (codes "scrapped") (natural f.scrapped)
    (member (codes "split") (natural f.split_out) no_members))))

-- a lot as where goods are, with what entered it and what left it
abbrev pub balance_item : LotBalance → Data
balance_item b = object (member (codes "def") (string b.standing.known.def) (member (codes "entered") (entered_data b.flows) (member (codes "held") (boolean b.standing.known.held)
    (member (codes "left") (left_data b.flows) (member (codes "lot") (string b.standing.known.lot) (member (codes "recalled") (boolean b.standing.recalled)
    (member (codes "stock") (natural b.standing.known.stock) (member (codes "sublots") (array (sublots_data b.standing.known.sublots))
    (member (codes "unit") (unit_or_null b.unit) no_members)))))))))

abbrev pub balances_data : List LotBalance → Data
balances_data lots = object (member (codes "lots") (rows_data balance_item lots) no_members)

-- an input of an order's recipe, and what there is of it
abbrev pub need_item : Need → Data
need_item n = object (member (codes "asked") (natural n.asked) (member (codes "def") (string n.def) (member (codes "short") (natural n.short)
    (member (codes "unit") (unit_or_null n.unit) (member (codes "usable") (natural n.usable) no_members)))))

abbrev pub needs_data : List Need → Data
needs_data needs = object (member (codes "needs") (rows_data need_item needs) no_members)
