-- Answers have no floats.
use Rattle.std.proofs.Common.{◌≡◌, List, [], ◌∷◌, map, ℕ, Bool, true, Option, Some, None, option_map, false, Result, refl, ◌∙◌, ap, IfOk}
use Rattle.serde_json.specs.Data.{Data, string}
use Rattle.serde_json.specs.declared.value.Value.{Value}
use Rattle.serde_json.specs.View.{items_of, view}
use Rattle.serde_json.specs.Written.{has_float, items_have_float, compact_text}
use Rattle.plant_base.specs.{Lifting, Movement, Recall, RecipeLine}
use Rattle.plant_view.specs.{batch_by, ends_of}
use Rattle.plant_questions.specs.{BatchLines, BatchView, BookedEdge, BookedLine, Booking, CommandHead, Genealogy, Listed, LotAnswer, LotBalance, Need, NodeAnswer, OpenBatch, OrderAnswer, PlannedBatch, RecallAnswer, RecipeAnswer, StandingLot, StockedLot}
use Rattle.plant_questions.specs.declared.genealogy.NodeAnswer.TheVariants as known
use Rattle.plant_questions.specs.declared.listed.Listed.TheVariants as listed
use Rattle.plant_base.specs.declared.rows.RecipeLine.TheVariants as line
use Rattle.plant_text_answers.specs.{balance_item, balances_data, need_item, needs_data, booking_data, batch_data, recall_data, node_item, edge_item, genealogy_data, node_data, trace_data, order_data, lot_data, standing_data, stands_data, order_item, batch_item, lot_item, hold_item, all_holds_item, recall_item, lifting_or_null, lifted_item, command_data, command_item, named_data, named_item, class_item, definition_item, recipe_item, movement_item, other_sub, stock_item, stock_row_item, listed_data, id_or_null, unit_or_null, planned_or_null, number_or_null, text_or_null, sublot_data, recipe_line_data, recipe_line_item, booked_line_data, booked_line_item, recipe_data, batch_lines_data}
use Rattle.plant_questions.specs.{BatchLines, BatchView, BookedEdge, BookedLine, Booking, CommandHead, FoundIds, Genealogy, Listed, LotAnswer, NodeAnswer, OpenBatch, OrderAnswer, PlannedBatch, RecallAnswer, RecipeAnswer, StandingLot, StockedLot}
use Rattle.plant_questions.specs.declared.genealogy.NodeAnswer.TheVariants as known
use Rattle.plant_questions.specs.declared.listed.Listed.TheVariants as listed
use Rattle.plant_base.specs.declared.rows.RecipeLine.TheVariants as line
use Rattle.plant_text_answers.specs.{found_data, booking_data, batch_data, recall_data, node_item, edge_item, genealogy_data, node_data, trace_data, order_data, lot_data, standing_data, stands_data, order_item, batch_item, lot_item, hold_item, all_holds_item, recall_item, lifting_or_null, lifted_item, command_data, command_item, named_data, named_item, class_item, definition_item, recipe_item, movement_item, other_sub, stock_item, stock_row_item, listed_data, id_or_null, unit_or_null, planned_or_null, number_or_null, text_or_null, sublot_data, recipe_line_data, recipe_line_item, booked_line_data, booked_line_item, recipe_data, batch_lines_data}
use Rattle.plant_trace.specs.{Node}
use Rattle.plant_trace.specs.declared.node.Node.TheVariants.{Lot, Batch}
use Rattle.plant_questions.specs.{other_lot}
use Rattle.std.proofs.lemmas.Result.{IfOk-weaker}

-- the text of a value that shows this
pub text_is : {S E : Type 0} (bytes : S → List ℕ) (d : Data) (v : Value) (r : Result S E) → view v ≡ d → has_float d ≡ false
    → IfOk r (λ s. has_float (view v) ≡ false → bytes s ≡ compact_text (view v)) → IfOk r (λ s. bytes s ≡ compact_text d)
text_is bytes d v r shows none reported = IfOk-weaker r _ _ (λ s h. h (ap has_float shows ∙ none) ∙ ap compact_text shows) reported

no_float_in_rows : {R : Type 0} (item : R → Data) → ((r : R) → has_float (item r) ≡ false) → (rows : List R) → items_have_float (items_of (map item rows)) ≡ false
no_float_in_rows item none [] = refl
no_float_in_rows item none (r ∷ rows) = rw (none r) (no_float_in_rows item none rows)

pub no_float_in_lot : (a : LotAnswer) → has_float (lot_data a) ≡ false
no_float_in_lot a = rw (no_float_in_rows sublot_data (λ s. refl) a.sublots) refl

no_float_in_id : (id : Option (List ℕ)) → has_float (id_or_null id) ≡ false
no_float_in_id None = refl
no_float_in_id (Some id) = refl

pub no_float_in_order : (a : OrderAnswer) → has_float (order_data a) ≡ false
no_float_in_order a = rw (no_float_in_id a.batch) refl

no_float_in_booking : (taken : Bool) (b : Booking) → has_float (booking_data taken b) ≡ false
no_float_in_booking true b = refl
no_float_in_booking false b = refl

pub no_float_in_batch : (v : BatchView) → has_float (batch_data v) ≡ false
no_float_in_batch v = rw (no_float_in_rows (booking_data true) (no_float_in_booking true) v.consumed, no_float_in_rows (booking_data false) (no_float_in_booking false) v.produced) refl

no_float_in_node : (n : Node) → has_float (node_data n) ≡ false
no_float_in_node (Lot id) = refl
no_float_in_node (Batch id) = refl

pub no_float_in_trace : (nodes : List Node) → has_float (trace_data nodes) ≡ false
no_float_in_trace nodes = rw (no_float_in_rows node_data no_float_in_node nodes) refl

pub no_float_in_recall : (a : RecallAnswer) → has_float (recall_data a) ≡ false
no_float_in_recall a = rw (no_float_in_rows node_data no_float_in_node a.nodes) refl

no_float_in_standing : (s : StandingLot) → has_float (standing_data s) ≡ false
no_float_in_standing s = rw (no_float_in_rows sublot_data (λ s. refl) s.known.sublots) refl

pub no_float_in_stands : (lots : List StandingLot) → has_float (stands_data lots) ≡ false
no_float_in_stands lots = rw (no_float_in_rows standing_data no_float_in_standing lots) refl

-- ---- recipes

no_float_in_unit : (unit : Option (List ℕ)) → has_float (unit_or_null unit) ≡ false
no_float_in_unit None = refl
no_float_in_unit (Some unit) = refl

no_float_in_line : (l : RecipeLine) (unit : Option (List ℕ)) → has_float (recipe_line_data l unit) ≡ false
no_float_in_line (line.In def amount) unit = rw (no_float_in_unit unit) refl
no_float_in_line (line.Out def amount) unit = rw (no_float_in_unit unit) refl
no_float_in_line (line.Parameter name value) unit = refl
no_float_in_line (line.Phase unit_procedure operation phase) unit = refl

no_float_in_booked : (l : RecipeLine) (b : BookedLine) → has_float (booked_line_data l b) ≡ false
no_float_in_booked (line.In def amount) b = rw (no_float_in_unit b.measured.unit) refl
no_float_in_booked (line.Out def amount) b = rw (no_float_in_unit b.measured.unit) refl
no_float_in_booked (line.Parameter name value) b = refl
no_float_in_booked (line.Phase unit_procedure operation phase) b = refl

pub no_float_in_recipe : (a : RecipeAnswer) → has_float (recipe_data a) ≡ false
no_float_in_recipe a = rw (no_float_in_rows recipe_line_item (λ l. no_float_in_line l.line l.unit) a.lines, no_float_in_unit a.unit) refl

pub no_float_in_batch_lines : (a : BatchLines) → has_float (batch_lines_data a) ≡ false
no_float_in_batch_lines a = rw (no_float_in_rows booked_line_item (λ b. no_float_in_booked b.measured.line.line b) a.lines) refl

-- ---- balances

no_float_in_balance : (b : LotBalance) → has_float (balance_item b) ≡ false
no_float_in_balance b = rw (no_float_in_rows sublot_data (λ s. refl) b.standing.known.sublots, no_float_in_unit b.unit) refl

pub no_float_in_balances : (lots : List LotBalance) → has_float (balances_data lots) ≡ false
no_float_in_balances lots = rw (no_float_in_rows balance_item no_float_in_balance lots) refl

no_float_in_need : (n : Need) → has_float (need_item n) ≡ false
no_float_in_need n = rw (no_float_in_unit n.unit) refl

pub no_float_in_needs : (needs : List Need) → has_float (needs_data needs) ≡ false
no_float_in_needs needs = rw (no_float_in_rows need_item no_float_in_need needs) refl

-- ---- ids

no_float_in_ids : (ids : List (List ℕ)) → items_have_float (items_of (map string ids)) ≡ false
no_float_in_ids ids = no_float_in_rows string (λ id. refl) ids

pub no_float_in_found : (f : FoundIds) → has_float (found_data f) ≡ false
no_float_in_found f = rw (no_float_in_ids f.batches, no_float_in_ids f.classes, no_float_in_ids f.definitions, no_float_in_ids f.lots, no_float_in_ids f.orders, no_float_in_ids f.recalls, no_float_in_ids f.recipes) refl

-- ---- genealogy

no_float_in_known : (n : NodeAnswer) → has_float (node_item n) ≡ false
no_float_in_known (known.Lot l) = refl
no_float_in_known (known.Batch id) = refl

no_float_in_edge : (b : BookedEdge) → has_float (edge_item b) ≡ false
no_float_in_edge b = rw (no_float_in_node (ends_of b.edge).0, no_float_in_node (ends_of b.edge).1) refl

pub no_float_in_genealogy : (g : Genealogy) → has_float (genealogy_data g) ≡ false
no_float_in_genealogy g = rw (no_float_in_rows edge_item no_float_in_edge g.edges, no_float_in_rows node_item no_float_in_known g.nodes) refl

-- ---- pages

no_float_in_stocked : (s : StandingLot) → has_float (lot_item s) ≡ false
no_float_in_stocked s = rw (no_float_in_rows sublot_data (λ s. refl) s.known.sublots) refl

no_float_in_lifting : (l : Option Lifting) → has_float (lifting_or_null l) ≡ false
no_float_in_lifting None = refl
no_float_in_lifting (Some l) = refl

no_float_in_lifted : (r : Recall) → has_float (lifted_item r) ≡ false
no_float_in_lifted r = rw (no_float_in_lifting r.lifting) refl

no_float_in_command : (seq : ℕ) (reference : List ℕ) (head : Option CommandHead) → has_float (command_data seq reference head) ≡ false
no_float_in_command seq reference None = refl
no_float_in_command seq reference (Some head) = refl

no_float_in_named : (seq : ℕ) (reference : List ℕ) (fields : List (List ℕ)) (head : Option CommandHead) → has_float (named_data seq reference fields head) ≡ false
no_float_in_named seq reference fields None = rw (no_float_in_ids fields) refl
no_float_in_named seq reference fields (Some head) = rw (no_float_in_ids fields) refl

no_float_in_number : (n : Option ℕ) → has_float (number_or_null n) ≡ false
no_float_in_number None = refl
no_float_in_number (Some n) = refl

no_float_in_movement : (m : Movement) → has_float (movement_item m) ≡ false
no_float_in_movement m = rw (no_float_in_id (batch_by m.kind), no_float_in_id (other_lot m.kind m.lot), no_float_in_number (other_sub m.kind)) refl

no_float_in_text : (text : Option (List ℕ)) → has_float (text_or_null text) ≡ false
no_float_in_text None = refl
no_float_in_text (Some text) = refl

no_float_in_planned : (p : Option PlannedBatch) → has_float (planned_or_null p) ≡ false
no_float_in_planned None = refl
no_float_in_planned (Some p) = rw (no_float_in_unit p.unit) refl

no_float_in_open : (b : OpenBatch) → has_float (batch_item b) ≡ false
no_float_in_open b = rw (no_float_in_id (option_map (λ n. n.phase) b.next_phase), no_float_in_id (option_map (λ n. n.unit_procedure) b.next_phase), no_float_in_planned b.planned) refl

no_float_in_stock : (s : StockedLot) → has_float (stock_item s) ≡ false
no_float_in_stock s = rw (no_float_in_number (option_map (λ m. m.at) s.born), no_float_in_text (option_map (λ m. m.by) s.born), no_float_in_text (option_map (λ m. m.note) s.born), no_float_in_number (option_map (λ m. m.seq) s.born), no_float_in_rows sublot_data (λ s. refl) s.standing.known.sublots) refl

pub no_float_in_listed : (l : Listed) → has_float (listed_data l) ≡ false
no_float_in_listed (listed.Orders page) = rw (no_float_in_rows order_item (λ j. refl) page.rows) refl
no_float_in_listed (listed.Batches page) = rw (no_float_in_rows batch_item no_float_in_open page.rows) refl
no_float_in_listed (listed.Lots page) = rw (no_float_in_id page.last, no_float_in_rows lot_item no_float_in_stocked page.lots) refl
no_float_in_listed (listed.Holds page) = rw (no_float_in_rows hold_item (λ h. refl) page.rows) refl
no_float_in_listed (listed.Recalls page) = rw (no_float_in_rows recall_item (λ r. refl) page.rows) refl
no_float_in_listed (listed.LiftedRecalls page) = rw (no_float_in_rows lifted_item no_float_in_lifted page.rows) refl
no_float_in_listed (listed.AllHolds page) = rw (no_float_in_rows all_holds_item (λ h. refl) page.rows) refl
no_float_in_listed (listed.Commands page) = rw (no_float_in_rows command_item (λ c. no_float_in_command c.seq c.reference c.head) page.rows) refl
no_float_in_listed (listed.History page) = rw (no_float_in_number page.last, no_float_in_rows named_item (λ c. no_float_in_named c.command.seq c.command.reference c.fields c.command.head) page.commands) refl
no_float_in_listed (listed.Classes page) = rw (no_float_in_rows class_item (λ c. refl) page.rows) refl
no_float_in_listed (listed.Definitions page) = rw (no_float_in_rows definition_item (λ d. refl) page.rows) refl
no_float_in_listed (listed.Recipes page) = rw (no_float_in_rows recipe_item (λ r. refl) page.rows) refl
no_float_in_listed (listed.Ledger page) = rw (no_float_in_rows movement_item no_float_in_movement page.rows) refl
no_float_in_listed (listed.Stock page) = rw (no_float_in_rows stock_item no_float_in_stock page.rows) refl
no_float_in_listed (listed.Stocks page) = rw (no_float_in_rows stock_row_item (λ d. refl) page.rows) refl
