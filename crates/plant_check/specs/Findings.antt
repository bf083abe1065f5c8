-- The broken rules, each with the first row that breaks it.
use Rattle.std.specs.Prelude.{◌≡◌, ℕ, Bool, true, false, not, if◌then◌else◌, List, [], ◌∷◌, codes, filter, Option, Some, None, is_none, is_some}
use Rattle.plant_base.specs.{Movement, Recall}
use Rattle.plant_tables_columns.specs.{only_meta}
use Rattle.plant_tables.specs.{contents_loaded, DeskRows, Loaded, Rows, rows_from, rows_listed}
use Rattle.plant_requirements.specs.{batch_fault_in, class_fault_in, order_fault_in}
use Rattle.plant_requirements.specs.{receipt_fault_in, row_mark_of, row_mark_of_event}
use Rattle.plant_check_rules.specs.{movements_in, recalls_read, obeys, tested_rules, first_broken, Rule}
use Rattle.plant_check_rules.specs.declared.rule.Rule.TheVariants as rule
use Rattle.plant_requirements.specs.{or_fault, RowFault}
use Rattle.plant_check.specs.Edges.{edge_fault_in}
use Rattle.plant_check.specs.Events.{event_fault_in}
use Rattle.plant_check.specs.Lots.{lot_fault_in}
use Rattle.plant_check.specs.Marks.{mark_fault_in}
use Rattle.plant_check.specs.Movements.{movement_fault_in}
use Rattle.plant_check.specs.Numbers.{number_fault_in, late_fault_in, movement_before, event_before, fall_fault_in}
use Rattle.plant_check.specs.Recalls.{recall_fault_in}
use Rattle.plant_check.specs.Recipes.{recipe_fault_in}
use Rattle.plant_check.specs.Stocks.{stock_fault_in}
use Rattle.plant_check.specs.Values.{value_fault_in}
use Rattle.plant_check.specs.declared.finding.Finding.{Finding}
use Rattle.plant_check.specs.declared.finding.Tested.{Tested}
use Rattle.plant_check.specs.declared.finding.Findings.{Findings}
use Rattle.plant_check.specs.declared.finding.Findings.TheVariants as findings

-- ---- the rules

-- what a rule says
abbrev pub rule_text : Rule → List ℕ
rule_text rule.Tables = codes "each table stands with its columns, and meta has one row"
rule_text rule.Values = codes "each value obeys its rule"
rule_text rule.Classes = codes "each definition's class is there"
rule_text rule.Recipes = codes "each recipe is well formed, and what it names is there"
rule_text rule.Orders = codes "each order has its recipe, its size and the batch that its state asks for"
rule_text rule.Batches = codes "each batch has its order and the control recipe that this asks for"
rule_text rule.Stocks = codes "each sublot's stock is what entered it less what left it"
rule_text rule.Lots = codes "each lot has its definition and its sublots, and each of these came to be once"
rule_text rule.Movements = codes "each movement has the columns of its kind, and what it names is there"
rule_text rule.Events = codes "each event was allowed, and each batch has come as far as its columns say"
rule_text rule.Numbers = codes "numbers are those of commands, and moments don't fall"
rule_text rule.Descent = codes "nothing was made from itself, and the edges are those of the movements"
rule_text rule.Receipts = codes "each receipt has a number of its own that was given"
rule_text rule.Recalls = codes "each recall has its lot, and the marks are those of what the open ones reach"

-- ---- findings

-- the row that breaks the rule of numbers and moments
abbrev pub numbered_fault_in : Rows → List Movement → Option RowFault
numbered_fault_in r ms =
    or_fault (number_fault_in r.meta.position.seq r.events ms)
    (or_fault (late_fault_in r.meta.position.at ms r.events r.batches r.holds)
    (or_fault (fall_fault_in row_mark_of movement_before (0, 0) ms) (fall_fault_in row_mark_of_event event_before (0, 0) r.events)))

-- the row that breaks the rule of recalls, or the mark that breaks it
abbrev pub recalled_fault_in : Rows → List Recall → List Movement → Option RowFault
recalled_fault_in r recalls ms = or_fault (recall_fault_in r.meta.position.at r.recalls r.lots recalls) (mark_fault_in recalls ms r.marks)

-- the first row that breaks the rule, where one is known
abbrev pub row_fault : Rule → Rows → Option RowFault
row_fault rule.Tables r = None
row_fault rule.Values r = None
row_fault rule.Classes r = class_fault_in r.classes r.definitions
row_fault rule.Recipes r = recipe_fault_in r.definitions r.recipes r.master_lines
row_fault rule.Orders r = order_fault_in r.recipes r.batches r.jobs
row_fault rule.Batches r = batch_fault_in r.recipes r.master_lines r.jobs r.batches r.control_lines
row_fault rule.Stocks r = stock_fault_in r.movements r.sublots
row_fault rule.Lots r = lot_fault_in r.definitions r.lots r.sublots r.holds r.movements
row_fault rule.Movements r = movement_fault_in r.movements r.lots r.sublots r.batches r.control_lines (movements_in r.movements)
row_fault rule.Events r = event_fault_in r.control_lines r.events r.batches
row_fault rule.Numbers r = numbered_fault_in r (movements_in r.movements)
row_fault rule.Descent r = edge_fault_in r.meta.schema r.edges (movements_in r.movements)
row_fault rule.Receipts r = receipt_fault_in r.meta.position.seq r.receipts
row_fault rule.Recalls r = recalled_fault_in r (recalls_read r.recalls) (movements_in r.movements)

-- what is found of a rule: nothing where the rows obey it, and else the first row that breaks it, where one is known
abbrev pub finding_of : Rule → Rows → Option Finding
finding_of t r = if obeys t r then None else Some (record { rule = t; row = row_fault t r })

-- the rules that the rows break, in their order
abbrev pub broken_rules : Rows → List Rule
broken_rules r = filter (λ t. not (obeys t r)) tested_rules

-- these rows were tested, and these are the rules that they break
pub record IsTestOf (rows : DeskRows) (t : Tested) : Type 0 where
  pub same : t.rows ≡ rows
  pub rules : t.rules.items ≡ broken_rules (rows_listed rows)

abbrev pub head : List Rule → Option Rule
head [] = None
head (t ∷ ts) = Some t

-- what is found of rows is so: it is the first rule, the second, or each other that they break
abbrev pub AreFindingsOf : Loaded → Findings → Type 0
AreFindingsOf x findings.NoMeta = is_some (only_meta (contents_loaded x 0)) ≡ false
AreFindingsOf x (findings.Values reported) = (is_some (only_meta (contents_loaded x 0)) ≡ true) × (rows_from x ≡ None) × (reported ≡ value_fault_in x)
AreFindingsOf x (findings.Rows t) = (is_some (only_meta (contents_loaded x 0)) ≡ true) × (rows_from x ≡ Some (rows_listed t.rows)) × IsTestOf t.rows t

-- the first rule that is found
abbrev pub first_rule : Findings → Option Rule
first_rule findings.NoMeta = Some rule.Tables
first_rule (findings.Values reported) = Some rule.Values
first_rule (findings.Rows t) = head t.rules.items

-- ---- laws

-- a rule is found exactly where the rows don't obey it
abbrev pub IsFoundWhereBroken : Type 0
IsFoundWhereBroken = (tested : Rule) (r : Rows) → is_none (finding_of tested r) ≡ obeys tested r

-- where the rule is broken, a row breaks it that is known: all but those on numbers, descent and recalls
abbrev pub is_broken_by_row : Rule → Bool
is_broken_by_row rule.Numbers = false
is_broken_by_row rule.Descent = false
is_broken_by_row rule.Recalls = false
is_broken_by_row _ = true

-- such a rule is obeyed exactly where no row is reported
abbrev pub IsFoundByRow : Type 0
IsFoundByRow = (tested : Rule) (r : Rows) → is_broken_by_row tested ≡ true → is_none (row_fault tested r) ≡ obeys tested r

-- the first that is found is the first that is broken
abbrev pub IsFirstFound : Type 0
IsFirstFound = (x : Loaded) (f : Findings) → AreFindingsOf x f → first_rule f ≡ first_broken x
