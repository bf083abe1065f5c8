-- The JSON trees of pages of worklists.
use Rattle.std.specs.Prelude.{ℕ, List, Option, Some, None, map, option_map, codes}
use Rattle.serde_json.specs.Data.{Data, null, boolean, string, array, object, member, no_members}
use Rattle.serde_json.specs.View.{items_of}
use Rattle.plant_base.specs.{batch_state_name, Class, Definition, Hold, Job, Lifting, Movement, MovementKind, Recall, Recipe}
use Rattle.plant_base.specs.declared.rows.MovementKind.TheVariants as kind
use Rattle.plant_view.specs.{batch_by}
use Rattle.plant_questions.specs.{other_lot, Page}
use Rattle.plant_questions.specs.{BookedCommand, CommandHead, DefinitionStock, HistoryPage, Listed, LotPage, NamedCommand, OpenBatch, PlannedBatch, StandingLot, StockedLot}
use Rattle.plant_questions.specs.declared.listed.Listed.TheVariants as listed
use Rattle.plant_text_answers.specs.Natural.{natural}
use Rattle.plant_text_answers.specs.Parts.{id_or_null, number_or_null, sublots_data, text_or_null, unit_or_null}

-- what is shown of rows, in their order
abbrev pub rows_data : {R : Type 0} → (R → Data) → List R → Data
rows_data item rows = array (items_of (map item rows))

abbrev pub order_item : Job → Data
order_item j = object (member (codes "due") (string j.order.due) (member (codes "order") (string j.order.order) (member (codes "priority") (natural j.order.priority)
    (member (codes "recipe") (string j.order.recipe) (member (codes "size") (natural j.order.size) (member (codes "version") (natural j.order.version) no_members))))))

-- what a batch is to make
abbrev pub planned_data : PlannedBatch → Data
planned_data p = object (member (codes "due") (string p.order.due) (member (codes "priority") (natural p.order.priority) (member (codes "product") (string p.header.product)
    (member (codes "recipe") (string p.order.recipe) (member (codes "size") (natural p.order.size) (member (codes "title") (string p.header.title)
    (member (codes "unit") (unit_or_null p.unit) (member (codes "version") (natural p.order.version) no_members))))))))

abbrev pub planned_or_null : Option PlannedBatch → Data
planned_or_null None = null
planned_or_null (Some p) = planned_data p

abbrev pub batch_item : OpenBatch → Data
batch_item b = object (member (codes "at") (natural b.last) (member (codes "attempt") (natural b.row.attempt) (member (codes "batch") (string b.row.batch.id)
    (member (codes "next") (natural b.row.next) (member (codes "order") (string b.row.batch.job) (member (codes "phase") (id_or_null (option_map (λ n. n.phase) b.next_phase))
    (member (codes "phase_unit") (id_or_null (option_map (λ n. n.unit_procedure) b.next_phase)) (member (codes "phases") (natural b.phases)
    (member (codes "planned") (planned_or_null b.planned) (member (codes "state") (string (batch_state_name b.row.state)) no_members))))))))))

abbrev pub lot_item : StandingLot → Data
lot_item s = object (member (codes "held") (boolean s.known.held) (member (codes "lot") (string s.known.lot) (member (codes "recalled") (boolean s.recalled)
    (member (codes "stock") (natural s.known.stock) (member (codes "sublots") (array (sublots_data s.known.sublots)) no_members)))))

abbrev pub hold_item : Hold → Data
hold_item h = object (member (codes "at") (natural h.at) (member (codes "by") (string h.by) (member (codes "hold") (string h.id) (member (codes "note") (string h.note) no_members))))

-- a hold among those of all lots
abbrev pub all_holds_item : Hold → Data
all_holds_item h = object (member (codes "at") (natural h.at) (member (codes "by") (string h.by) (member (codes "hold") (string h.id) (member (codes "lot") (string h.lot)
    (member (codes "note") (string h.note) no_members)))))

abbrev pub recall_item : Recall → Data
recall_item r = object (member (codes "at") (natural r.at) (member (codes "by") (string r.by) (member (codes "lot") (string r.lot) (member (codes "note") (string r.note)
    (member (codes "recall") (string r.id) no_members)))))

abbrev pub lifting_data : Lifting → Data
lifting_data l = object (member (codes "at") (natural l.at) (member (codes "by") (string l.by) (member (codes "note") (string l.note) no_members)))

-- how the recall was lifted, or null where it is open
abbrev pub lifting_or_null : Option Lifting → Data
lifting_or_null None = null
lifting_or_null (Some l) = lifting_data l

-- a recall among those that were lifted
abbrev pub lifted_item : Recall → Data
lifted_item r = object (member (codes "at") (natural r.at) (member (codes "by") (string r.by) (member (codes "lift") (lifting_or_null r.lifting) (member (codes "lot") (string r.lot)
    (member (codes "note") (string r.note) (member (codes "recall") (string r.id) no_members))))))

-- the number and the reference of a command, with what its content begins with where that is known
abbrev pub command_data : ℕ → List ℕ → Option CommandHead → Data
command_data seq reference None = object (member (codes "ref") (string reference) (member (codes "seq") (natural seq) no_members))
command_data seq reference (Some head) = object (member (codes "at") (natural head.at) (member (codes "by") (string head.by) (member (codes "do") (string head.word)
    (member (codes "note") (string head.note) (member (codes "ref") (string reference) (member (codes "seq") (natural seq) no_members))))))

abbrev pub command_item : BookedCommand → Data
command_item c = command_data c.seq c.reference c.head

-- the same with the fields of the command
abbrev pub named_data : ℕ → List ℕ → List (List ℕ) → Option CommandHead → Data
named_data seq reference fields None = object (member (codes "fields") (rows_data string fields) (member (codes "ref") (string reference) (member (codes "seq") (natural seq) no_members)))
named_data seq reference fields (Some head) = object (member (codes "at") (natural head.at) (member (codes "by") (string head.by) (member (codes "do") (string head.word)
    (member (codes "fields") (rows_data string fields) (member (codes "note") (string head.note) (member (codes "ref") (string reference) (member (codes "seq") (natural seq) no_members)))))))

abbrev pub named_item : NamedCommand → Data
named_item c = named_data c.command.seq c.command.reference c.fields c.command.head

abbrev pub class_item : Class → Data
class_item c = object (member (codes "class") (string c.id) (member (codes "name") (string c.name) no_members))

abbrev pub definition_item : Definition → Data
definition_item d = object (member (codes "def") (string d.id) (member (codes "name") (string d.name) (member (codes "unit") (string d.unit) no_members)))

abbrev pub recipe_item : Recipe → Data
recipe_item r = object (member (codes "base") (natural r.header.base) (member (codes "max") (natural r.header.greatest) (member (codes "min") (natural r.header.least)
    (member (codes "product") (string r.header.product) (member (codes "recipe") (string r.header.recipe) (member (codes "title") (string r.header.title)
    (member (codes "version") (natural r.header.version) no_members)))))))

-- the word of what a movement does
abbrev pub movement_kind_name : MovementKind → List ℕ
movement_kind_name kind.Received = codes "received"
movement_kind_name (kind.Consumed batch) = codes "consumed"
movement_kind_name (kind.Produced batch) = codes "produced"
movement_kind_name kind.Scrapped = codes "scrapped"
movement_kind_name (kind.Divided to) = codes "divided"
movement_kind_name (kind.Split to) = codes "split"
movement_kind_name (kind.Merged to) = codes "merged"

-- the sublot that a movement brings its amount to from another one
abbrev pub other_sub : MovementKind → Option ℕ
other_sub (kind.Divided to) = Some to
other_sub (kind.Split to) = Some 0
other_sub (kind.Merged to) = Some 0
other_sub _ = None

abbrev pub movement_item : Movement → Data
movement_item m = object (member (codes "amount") (natural m.amount) (member (codes "at") (natural m.at) (member (codes "batch") (id_or_null (batch_by m.kind))
    (member (codes "by") (string m.by) (member (codes "kind") (string (movement_kind_name m.kind)) (member (codes "line") (natural m.line)
    (member (codes "lot") (string m.lot) (member (codes "note") (string m.note) (member (codes "seq") (natural m.seq) (member (codes "sub") (natural m.sub)
    (member (codes "to") (id_or_null (other_lot m.kind m.lot)) (member (codes "to_sub") (number_or_null (other_sub m.kind)) no_members))))))))))))

-- a lot that has stock, with the booking that made it
abbrev pub stock_item : StockedLot → Data
stock_item s = object (member (codes "at") (number_or_null (option_map (λ m. m.at) s.born)) (member (codes "by") (text_or_null (option_map (λ m. m.by) s.born))
    (member (codes "held") (boolean s.standing.known.held) (member (codes "lot") (string s.standing.known.lot)
    (member (codes "note") (text_or_null (option_map (λ m. m.note) s.born)) (member (codes "recalled") (boolean s.standing.recalled)
    (member (codes "seq") (number_or_null (option_map (λ m. m.seq) s.born)) (member (codes "stock") (natural s.standing.known.stock)
    (member (codes "sublots") (array (sublots_data s.standing.known.sublots)) no_members)))))))))

-- what there is of a definition
abbrev pub stock_row_item : DefinitionStock → Data
stock_row_item d = object (member (codes "def") (string d.definition.id) (member (codes "held") (natural d.held) (member (codes "lots") (natural d.lots)
    (member (codes "name") (string d.definition.name) (member (codes "recalled") (natural d.recalled) (member (codes "unit") (string d.definition.unit)
    (member (codes "usable") (natural d.usable) no_members)))))))

-- ---- pages

abbrev pub orders_data : Page Job → Data
orders_data page = object (member (codes "more") (boolean page.has_more) (member (codes "orders") (rows_data order_item page.rows) no_members))

abbrev pub batches_data : Page OpenBatch → Data
batches_data page = object (member (codes "batches") (rows_data batch_item page.rows) (member (codes "more") (boolean page.has_more) no_members))

abbrev pub lots_data : LotPage → Data
lots_data page = object (member (codes "last") (id_or_null page.last) (member (codes "lots") (rows_data lot_item page.lots) (member (codes "more") (boolean page.has_more) no_members)))

abbrev pub holds_data : Page Hold → Data
holds_data page = object (member (codes "holds") (rows_data hold_item page.rows) (member (codes "more") (boolean page.has_more) no_members))

abbrev pub all_holds_data : Page Hold → Data
all_holds_data page = object (member (codes "holds") (rows_data all_holds_item page.rows) (member (codes "more") (boolean page.has_more) no_members))

abbrev pub recalls_data : Page Recall → Data
recalls_data page = object (member (codes "more") (boolean page.has_more) (member (codes "recalls") (rows_data recall_item page.rows) no_members))

abbrev pub lifted_data : Page Recall → Data
lifted_data page = object (member (codes "more") (boolean page.has_more) (member (codes "recalls") (rows_data lifted_item page.rows) no_members))

abbrev pub commands_data : Page BookedCommand → Data
commands_data page = object (member (codes "commands") (rows_data command_item page.rows) (member (codes "more") (boolean page.has_more) no_members))

abbrev pub history_data : HistoryPage → Data
history_data page = object (member (codes "commands") (rows_data named_item page.commands) (member (codes "last") (number_or_null page.last) (member (codes "more") (boolean page.has_more) no_members)))

abbrev pub classes_data : Page Class → Data
classes_data page = object (member (codes "classes") (rows_data class_item page.rows) (member (codes "more") (boolean page.has_more) no_members))

abbrev pub definitions_data : Page Definition → Data
definitions_data page = object (member (codes "definitions") (rows_data definition_item page.rows) (member (codes "more") (boolean page.has_more) no_members))

abbrev pub recipes_data : Page Recipe → Data
recipes_data page = object (member (codes "more") (boolean page.has_more) (member (codes "recipes") (rows_data recipe_item page.rows) no_members))

abbrev pub ledger_data : Page Movement → Data
ledger_data page = object (member (codes "more") (boolean page.has_more) (member (codes "movements") (rows_data movement_item page.rows) no_members))

abbrev pub stock_data : Page StockedLot → Data
stock_data page = object (member (codes "lots") (rows_data stock_item page.rows) (member (codes "more") (boolean page.has_more) no_members))

abbrev pub stocks_data : Page DefinitionStock → Data
stocks_data page = object (member (codes "more") (boolean page.has_more) (member (codes "stocks") (rows_data stock_row_item page.rows) no_members))

abbrev pub listed_data : Listed → Data
listed_data (listed.Orders page) = orders_data page
listed_data (listed.Batches page) = batches_data page
listed_data (listed.Lots page) = lots_data page
listed_data (listed.Holds page) = holds_data page
listed_data (listed.Recalls page) = recalls_data page
listed_data (listed.LiftedRecalls page) = lifted_data page
listed_data (listed.AllHolds page) = all_holds_data page
listed_data (listed.Commands page) = commands_data page
listed_data (listed.History page) = history_data page
listed_data (listed.Classes page) = classes_data page
listed_data (listed.Definitions page) = definitions_data page
listed_data (listed.Recipes page) = recipes_data page
listed_data (listed.Ledger page) = ledger_data page
listed_data (listed.Stock page) = stock_data page
listed_data (listed.Stocks page) = stocks_data page
