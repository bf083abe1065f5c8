-- The rules that the tables of a desk obey, and the first that is broken.
use Rattle.std.specs.Prelude.{ℕ, Bool, true, not, ◌&&◌, if◌then◌else◌, List, [], ◌∷◌, find, Option, Some, None, is_none, is_some, filter_map}
use Rattle.std.specs.List.{list_all}
use Rattle.std.specs.Cmp.Lexicographic.{pointwise}
use Rattle.plant_base.specs.{edge_eq, EdgeRow, Movement, Recall}
use Rattle.plant_trace.specs.{leads, Node}
use Rattle.plant_view.specs.{edges_among, edges_in}
use Rattle.plant_requirements.specs.{are_recipes, are_events, batch_fault_in, class_fault_in, order_fault_in}
use Rattle.plant_requirements.specs.{are_marks, are_movements, are_numbers, are_recalls, are_times, receipt_fault_in}
use Rattle.plant_tables.specs.{contents_loaded, Loaded, Rows, rows_from}
use Rattle.plant_tables_columns.specs.{movement_from, recall_from, only_meta, BookedRow, StatedRecall}
use Rattle.plant_check_rules.specs.SublotFlows.{are_stocks}
use Rattle.plant_check_rules.specs.Lots.{are_lots}
use Rattle.plant_check_rules.specs.declared.rule.Rule.{Rule}
use Rattle.plant_check_rules.specs.declared.rule.Rule.TheVariants as rule

-- each row has the columns of its kind
abbrev pub are_whole : List BookedRow → Bool
are_whole rows = list_all (λ r. is_some (movement_from r)) rows

abbrev pub movements_in : List BookedRow → List Movement
movements_in rows = filter_map movement_from rows

-- no node leads to itself
abbrev pub are_acyclic : List (Node × Node) → Bool
are_acyclic pairs = list_all (λ p. not (leads pairs p.0 p.0)) pairs

-- the same rows in the same order
abbrev pub are_same_edges : List EdgeRow → List EdgeRow → Bool
are_same_edges = pointwise edge_eq

-- they are those of the movements, in a schema that keeps them
abbrev pub are_kept_edges : ℕ → List EdgeRow → List Movement → Bool
are_kept_edges schema rows movements = are_same_edges rows (edges_in schema movements)

-- nothing came of itself, and the edges are those of the movements
abbrev pub are_right_edges : Rows → List Movement → Bool
are_right_edges r ms = are_acyclic (edges_among ms) && are_kept_edges r.meta.schema r.edges ms

abbrev pub are_right_movements : Rows → List Movement → Bool
are_right_movements r ms = are_whole r.movements && are_movements r.lots r.sublots r.batches r.control_lines ms

abbrev pub are_right_numbers : Rows → List Movement → Bool
are_right_numbers r ms = are_numbers r.meta.position.seq r.events ms && are_times r.meta.position.at ms r.events r.batches r.holds

-- each row has the columns of a lifting that its state asks for
abbrev pub are_fitting : List StatedRecall → Bool
are_fitting rows = list_all (λ r. is_some (recall_from r)) rows

abbrev pub recalls_read : List StatedRecall → List Recall
recalls_read rows = filter_map recall_from rows

-- the recalls' lots are there and their moments fit, and the marks are those of what the open ones reach
abbrev pub are_kept_recalls : Rows → List Recall → List Movement → Bool
are_kept_recalls r recalls ms = are_recalls r.meta.position.at r.lots recalls && are_marks recalls ms r.marks

abbrev pub are_right_recalls : Rows → Bool
are_right_recalls r = are_fitting r.recalls && are_kept_recalls r (recalls_read r.recalls) (movements_in r.movements)

-- ---- the rules

-- rows whose values obey theirs obey the rule
abbrev pub obeys : Rule → Rows → Bool
obeys rule.Tables r = true
obeys rule.Values r = true
obeys rule.Classes r = is_none (class_fault_in r.classes r.definitions)
obeys rule.Recipes r = are_recipes r.definitions r.recipes r.master_lines
obeys rule.Orders r = is_none (order_fault_in r.recipes r.batches r.jobs)
obeys rule.Batches r = is_none (batch_fault_in r.recipes r.master_lines r.jobs r.batches r.control_lines)
obeys rule.Stocks r = are_stocks r.movements r.sublots
obeys rule.Lots r = are_lots r.definitions r.lots r.sublots r.holds r.movements
obeys rule.Movements r = are_right_movements r (movements_in r.movements)
obeys rule.Events r = are_events r.control_lines r.events r.batches
obeys rule.Numbers r = are_right_numbers r (movements_in r.movements)
obeys rule.Descent r = are_right_edges r (movements_in r.movements)
obeys rule.Receipts r = is_none (receipt_fault_in r.meta.position.seq r.receipts)
obeys rule.Recalls r = are_right_recalls r

-- the rules that such rows are tested by, in their order
abbrev pub tested_rules : List Rule
tested_rules =
    rule.Classes ∷ rule.Recipes ∷ rule.Orders ∷ rule.Batches ∷ rule.Stocks ∷ rule.Lots
    ∷ rule.Movements ∷ rule.Events ∷ rule.Numbers ∷ rule.Descent ∷ rule.Receipts ∷ rule.Recalls ∷ []

-- the first of them that the rows break
unfoldable pub first_broken_of : Rows → Option Rule
first_broken_of r = find (λ t. not (obeys t r)) tested_rules

abbrev pub broken_rows : Option Rows → Option Rule
broken_rows None = Some rule.Values
broken_rows (Some r) = first_broken_of r

-- the first rule that is broken
unfoldable pub first_broken : Loaded → Option Rule
first_broken x = if is_some (only_meta (contents_loaded x 0)) then broken_rows (rows_from x) else Some rule.Tables
