-- A rule is found exactly where the rows don't obey it, and most with a row.
use Rattle.std.proofs.Common.{◌≡◌, ◌∙◌, ℕ, Bool, true, false, nat_le, List, [], ◌∷◌, map, Option, Some, None, is_some, Result, Ok, Err, refl, ap, is_none, if◌then◌else◌}
use Rattle.std.proofs.lemmas.Bool.{false≢true}
use Rattle.std.specs.List.{list_all}
use Rattle.plant_base.specs.{BatchEvent, BatchRow, ControlLine, Definition, Hold, Lot, MasterLine, Movement, Recipe, Refusal, Sublot}
use Rattle.plant_recipe.specs.{is_well_formed, run_of}
use Rattle.plant_recipe.specs.declared.progress.Progress.{Progress}
use Rattle.plant_stock.specs.{goes_to, comes_from}
use Rattle.plant_view.specs.{batch_by, is_defined, is_known, rows_among, lines_among, phases_among, events_among}
use Rattle.plant_tables_columns.specs.{movement_from, BookedRow}
use Rattle.plant_tables.specs.{Rows}
use Rattle.plant_requirements.specs.{is_row_among, is_run, kept_progress, has_right_run, are_numbered, is_recipe_among, is_consistent_recipe}
use Rattle.plant_requirements.specs.{are_by, are_lines, are_numbers, has_right_number, is_apart, is_entered_before, is_given, is_next_line, is_there, is_batch_there, is_of_right_definition, is_of_right_merge, names_known, is_right_movement}
use Rattle.plant_check_rules.specs.{movements_in, obeys, has_right_stock, are_from_zero, sublots_among, is_lot_among, is_born, is_right_lot, is_right_sublot, Rule}
use Rattle.plant_check_rules.specs.declared.rule.Rule.TheVariants as rule
use Rattle.plant_check.specs.{run_found, run_fault, row_fault, is_broken_by_row, IsFoundByRow, IsFoundWhereBroken, Finding, RowFault, lot_fault, sublot_fault, naming_fault, movement_fault, line_fault, recipe_fault, stock_fault, line_fault_in, number_fault, number_fault_in, late_fault_in}
use Rattle.plant_check.proofs.FaultIfBroken.{reported_none, two_none, three_none, after_three, then_two, both_none, each_none, then_each, first_none, all_mapped}

-- ---- rows

recipe_none : (definitions : List Definition) (rows : List MasterLine) (r : Recipe) → is_none (recipe_fault definitions rows r) ≡ is_consistent_recipe definitions rows r
unfolding is_consistent_recipe
recipe_none definitions rows r =
    let own = rows_among rows r.header.recipe r.header.version in
    let lines = lines_among rows r.header.recipe r.header.version in
    let named = first_none (line_fault definitions) (λ l. is_known definitions l.line) (λ l. reported_none _ _) own ∙ all_mapped (is_known definitions) (λ l. l.line) own in
    after_three (is_well_formed r.header lines) (are_numbered 1 (map (λ l. l.number) own)) (is_defined definitions r.header.product) (list_all (is_known definitions) lines) _ _ _ _ named

stock_none : (rows : List BookedRow) (s : Sublot) → is_none (stock_fault rows rows s) ≡ has_right_stock rows s
unfolding has_right_stock
stock_none rows s = reported_none _ _

lot_none : (definitions : List Definition) (sublots : List Sublot) (l : Lot) → is_none (lot_fault definitions sublots l) ≡ is_right_lot definitions sublots l
unfolding is_right_lot
lot_none definitions sublots l = two_none (is_defined definitions l.def) (are_from_zero (map (λ s. s.number) (sublots_among sublots l.id))) _ _

sublot_none : (lots : List Lot) (rows : List BookedRow) (s : Sublot) → is_none (sublot_fault lots rows s) ≡ is_right_sublot lots rows s
unfolding is_right_sublot
sublot_none lots rows s = two_none (is_lot_among lots s.lot) (is_born rows s) _ _

movement_none : (lots : List Lot) (sublots : List Sublot) (batches : List BatchRow) (control : List ControlLine) (ms : List Movement) (m : Movement)
    → is_none (movement_fault lots sublots batches control ms m) ≡ is_right_movement lots sublots batches control ms m
unfolding is_right_movement
movement_none lots sublots batches control ms m =
    let named = three_none (is_there sublots (goes_to m.kind m.lot m.sub)) (is_there sublots (comes_from m.kind m.lot m.sub)) (is_batch_there batches (batch_by m.kind)) _ _ _ in
    then_two (naming_fault sublots batches m) (names_known sublots batches m) (is_of_right_definition lots control m.kind m.lot) (is_of_right_merge ms m) _ _ named

run_none : (r : Result Progress Refusal) (b : BatchRow) → is_none (run_found r b) ≡ is_run r (kept_progress b)
run_none (Err refusal) b = refl
run_none (Ok p) b = reported_none _ _

has_run_none : (control : List ControlLine) (events : List BatchEvent) (b : BatchRow) → is_none (run_fault control events b) ≡ has_right_run control events b
unfolding has_right_run
has_run_none control events b = run_none (run_of (phases_among control b.batch.id) (events_among events b.batch.id)) b

-- ---- numbers and moments

lines_none : (before : Option Movement) (ms : List Movement) → is_none (line_fault_in before ms) ≡ are_lines before ms
lines_none before [] = refl
lines_none before (m ∷ ms) = both_none _ _ _ _ (reported_none (is_next_line before m) _) (lines_none (Some m) ms)

number_none : (greatest : ℕ) (events : List BatchEvent) (ms : List Movement) (m : Movement) → is_none (number_fault greatest events ms m) ≡ has_right_number greatest events ms m
unfolding has_right_number
number_none greatest events ms m = three_none (is_given greatest m.seq) (is_apart events m) (is_entered_before ms m.seq (comes_from m.kind m.lot m.sub)) _ _ _

pub numbers_none : (greatest : ℕ) (events : List BatchEvent) (ms : List Movement) → is_none (number_fault_in greatest events ms) ≡ are_numbers greatest events ms
numbers_none greatest events ms =
    each_none _ _ _ _ _ _ (lines_none None ms) (first_none _ (has_right_number greatest events ms) (number_none greatest events ms) ms)
    (first_none _ (λ (e : BatchEvent). is_given greatest e.seq) (λ e. reported_none _ _) events)

pub late_none : (at : ℕ) (ms : List Movement) (es : List BatchEvent) (batches : List BatchRow) (holds : List Hold) → is_none (late_fault_in at ms es batches holds) ≡ are_by at ms es batches holds
late_none at ms es batches holds =
    then_each _ _ _ _ _ _ _ _ (first_none _ (λ (m : Movement). nat_le m.at at) (λ m. reported_none _ _) ms) (first_none _ (λ (e : BatchEvent). nat_le e.at at) (λ e. reported_none _ _) es)
    (first_none _ (λ (b : BatchRow). nat_le b.batch.at at) (λ b. reported_none _ _) batches) (first_none _ (λ (h : Hold). nat_le h.at at) (λ h. reported_none _ _) holds)

-- ---- rules

pub found_by_row : IsFoundByRow
found_by_row rule.Tables r by_row = refl
found_by_row rule.Values r by_row = refl
found_by_row rule.Classes r by_row = refl
found_by_row rule.Recipes r by_row =
    both_none _ _ _ _ (first_none _ (is_consistent_recipe r.definitions r.master_lines) (recipe_none r.definitions r.master_lines) r.recipes)
    (first_none _ (λ l. is_recipe_among r.recipes l.recipe l.version) (λ l. reported_none _ _) r.master_lines)
found_by_row rule.Orders r by_row = refl
found_by_row rule.Batches r by_row = refl
found_by_row rule.Stocks r by_row = first_none _ (has_right_stock r.movements) (stock_none r.movements) r.sublots
found_by_row rule.Lots r by_row =
    both_none _ _ _ _ (first_none _ (is_right_lot r.definitions r.sublots) (lot_none r.definitions r.sublots) r.lots)
    (both_none _ _ _ _ (first_none _ (is_right_sublot r.lots r.movements) (sublot_none r.lots r.movements) r.sublots)
    (first_none _ (λ h. is_lot_among r.lots h.lot) (λ h. reported_none _ _) r.holds))
found_by_row rule.Movements r by_row =
    let ms = movements_in r.movements in
    both_none _ _ _ _ (first_none _ (λ b. is_some (movement_from b)) (λ b. reported_none _ _) r.movements)
    (first_none _ (is_right_movement r.lots r.sublots r.batches r.control_lines ms) (movement_none r.lots r.sublots r.batches r.control_lines ms) ms)
found_by_row rule.Events r by_row =
    both_none _ _ _ _ (first_none _ (has_right_run r.control_lines r.events) (has_run_none r.control_lines r.events) r.batches)
    (first_none _ (λ e. is_row_among r.batches e.batch) (λ e. reported_none _ _) r.events)
found_by_row rule.Numbers r by_row = absurd (false≢true by_row)
found_by_row rule.Descent r by_row = absurd (false≢true by_row)
found_by_row rule.Receipts r by_row = refl
found_by_row rule.Recalls r by_row = absurd (false≢true by_row)

-- of what was reported
pub none_where_obeyed : (tested : Rule) (r : Rows) (reported : Option RowFault) → reported ≡ row_fault tested r → is_broken_by_row tested ≡ true → is_none reported ≡ obeys tested r
none_where_obeyed tested r reported is by_row = ap is_none is ∙ found_by_row tested r by_row

none_where : (b : Bool) (f : Finding) → is_none (if b then None else Some f) ≡ b
none_where true f = refl
none_where false f = refl

pub found_where_broken : IsFoundWhereBroken
found_where_broken tested r = none_where (obeys tested r) _
