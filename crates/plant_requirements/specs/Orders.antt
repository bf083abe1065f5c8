-- Orders and the batches that they were released as.
use Rattle.std.specs.Prelude.{ℕ, Bool, false, not, ◌&&◌, ◌==◌, List, [], ◌∷◌, Option, Some, None, find, is_none}
use Rattle.plant_base.specs.{same, BatchRow, Job, JobState, Recipe}
use Rattle.plant_base.specs.declared.states.JobState.TheVariants.{Open, Cancelled, Released, Finished}
use Rattle.plant_view.specs.{is_size_of_recipe}
use Rattle.plant_requirements.specs.First.{Requirement, RowFault, Wanted, first_reported, first_unmet, in_column, names_none}
use Rattle.plant_requirements.specs.Keys.{id_key}
use Rattle.plant_requirements.specs.declared.table_names.Table.TheVariants as table
use Rattle.plant_requirements.specs.declared.fault.Column.TheVariants as column
use Rattle.plant_requirements.specs.declared.fault.Found.TheVariants as found
use Rattle.plant_requirements.specs.declared.fault.Wanted.TheVariants as wanted

abbrev pub recipe_among : List Recipe → List ℕ → ℕ → Option Recipe
recipe_among recipes id version = find (λ r. same r.header.recipe id && r.header.version == version) recipes

-- the batch of an order, with its kept columns
abbrev pub row_of_order : List BatchRow → List ℕ → Option BatchRow
row_of_order batches order = find (λ b. same b.batch.job order) batches

abbrev pub is_left_open : Option BatchRow → Bool
is_left_open None = false
is_left_open (Some b) = not b.closed

abbrev pub is_closed : Option BatchRow → Bool
is_closed None = false
is_closed (Some b) = b.closed

-- a released order has a batch that isn't closed, a finished one a closed batch, and no other has one
abbrev pub is_started : JobState → Option BatchRow → Bool
is_started Open b = is_none b
is_started Cancelled b = is_none b
is_started Released b = is_left_open b
is_started Finished b = is_closed b

abbrev pub batch_wanted : JobState → Wanted
batch_wanted Open = wanted.NoBatch
batch_wanted Cancelled = wanted.NoBatch
batch_wanted Released = wanted.OpenBatch
batch_wanted Finished = wanted.ClosedBatch

abbrev pub wrong_size : Option Recipe → Job → RowFault
wrong_size None j = names_none (table.Job, id_key j.order.order) column.Recipe j.order.recipe table.Recipe
wrong_size (Some r) j = in_column (table.Job, id_key j.order.order) column.Size (found.Number j.order.size) (wanted.Size r.header.least r.header.greatest)

-- the order's recipe is there with its size, and it has a batch as its state says
abbrev pub of_order : Option Recipe → Option BatchRow → Job → List Requirement
of_order r b j =
    (is_size_of_recipe r j.order.size, wrong_size r j)
    ∷ (is_started j.state b, in_column (table.Job, id_key j.order.order) column.State (found.Order j.state) (batch_wanted j.state))
    ∷ []

abbrev pub order_fault : List Recipe → List BatchRow → Job → Option RowFault
order_fault recipes batches j = first_unmet (of_order (recipe_among recipes j.order.recipe j.order.version) (row_of_order batches j.order.order) j)

abbrev pub order_fault_in : List Recipe → List BatchRow → List Job → Option RowFault
order_fault_in recipes batches jobs = first_reported (order_fault recipes batches) jobs
