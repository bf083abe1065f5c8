-- Batches and their control recipes.
use Rattle.std.specs.Prelude.{ℕ, Bool, false, ◌==◌, if◌then◌else◌, List, [], ◌∷◌, Option, Some, None, filter, map, length}
use Rattle.std.specs.List.{list_any}
use Rattle.std.specs.Cmp.Lexicographic.{pointwise}
use Rattle.plant_base.specs.{same, BatchRow, ControlLine, Header, Job, MasterLine, Recipe, RecipeLine}
use Rattle.plant_base.specs.contracts.rows.RecipeLinePartialEq.TheImpl.{ghosts as equal}
use Rattle.plant_recipe.specs.{is_well_formed, is_size_of, control_of}
use Rattle.plant_view.specs.{lines_among, control_among, job_among}
use Rattle.plant_requirements.specs.First.{Requirement, RowFault, as_a_whole, fault_unless, first_reported, first_unmet, in_column, names_none, or_fault}
use Rattle.plant_requirements.specs.Keys.{control_line_key, id_key}
use Rattle.plant_requirements.specs.declared.table_names.Table.TheVariants as table
use Rattle.plant_requirements.specs.declared.fault.Column.TheVariants as column
use Rattle.plant_requirements.specs.declared.fault.Found.TheVariants as found
use Rattle.plant_requirements.specs.declared.fault.Wanted.TheVariants as wanted
use Rattle.plant_requirements.specs.Orders.{recipe_among}
use Rattle.plant_requirements.specs.Recipes.{are_numbered}

-- the control recipe for one of the recipe's sizes, where nothing becomes 0
abbrev pub control_sized : Header → List RecipeLine → ℕ → Option (List RecipeLine)
control_sized header lines size = if is_size_of header size then control_of header lines size else None

-- the same of a recipe that is well formed
abbrev pub control_if_well_formed : Header → List RecipeLine → ℕ → Option (List RecipeLine)
control_if_well_formed header lines size = if is_well_formed header lines then control_sized header lines size else None

abbrev pub control_of_found : List MasterLine → ℕ → Option Recipe → Option (List RecipeLine)
control_of_found rows size None = None
control_of_found rows size (Some r) = control_if_well_formed r.header (lines_among rows r.header.recipe r.header.version) size

-- the control recipe that an order asks for, where the order and its recipe are there
abbrev pub control_asked_for : List Recipe → List MasterLine → Option Job → Option (List RecipeLine)
control_asked_for recipes rows None = None
control_asked_for recipes rows (Some j) = control_of_found rows j.order.size (recipe_among recipes j.order.recipe j.order.version)

-- the lines are those of the control recipe
abbrev pub is_control : Option (List RecipeLine) → List RecipeLine → Bool
is_control None lines = false
is_control (Some control) lines = pointwise equal.eq control lines

abbrev pub is_row_among : List BatchRow → List ℕ → Bool
is_row_among batches id = list_any (λ b. same b.batch.id id) batches

-- the batch is the only one of its order, and its lines, numbered from 1 on, are the control recipe that it asks for
abbrev pub of_batch : List Recipe → List MasterLine → List Job → List BatchRow → List ControlLine → BatchRow → List Requirement
of_batch recipes rows jobs batches own b =
    (length (filter (λ x. same x.batch.job b.batch.job) batches) == 1, in_column (table.Batch, id_key b.batch.id) column.Job (found.Id b.batch.job) wanted.OneBatch)
    ∷ (are_numbered 1 (map (λ l. l.number) own), as_a_whole (table.Batch, id_key b.batch.id) (wanted.NumberedFrom table.ControlLine 1))
    ∷ (is_control (control_asked_for recipes rows (job_among jobs b.batch.job)) (map (λ l. l.line) own), as_a_whole (table.Batch, id_key b.batch.id) wanted.Control)
    ∷ []

abbrev pub batch_fault : List Recipe → List MasterLine → List Job → List BatchRow → List ControlLine → BatchRow → Option RowFault
batch_fault recipes rows jobs batches control b = first_unmet (of_batch recipes rows jobs batches (control_among control b.batch.id) b)

-- the line's batch is there
abbrev pub control_line_fault : List BatchRow → ControlLine → Option RowFault
control_line_fault batches l = fault_unless (is_row_among batches l.batch) (names_none (table.ControlLine, control_line_key l) column.Batch l.batch table.Batch)

abbrev pub batch_fault_in : List Recipe → List MasterLine → List Job → List BatchRow → List ControlLine → Option RowFault
batch_fault_in recipes rows jobs batches control =
    or_fault (first_reported (batch_fault recipes rows jobs batches control) batches) (first_reported (control_line_fault batches) control)
