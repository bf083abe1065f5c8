-- Which rows of a state each list means, in the order of their keys.
use Rattle.std.specs.Prelude.{ℕ, Bool, not, ◌&&◌, ◌||◌, if◌then◌else◌, nat_lt, List, [], Option, Some, None, filter, map}
use Rattle.std.specs.Ordering.{is_gt, nat_cmp, ordering_then}
use Rattle.std.specs.declared.cmp.Ordering.{Ordering}
use Rattle.plant_base.specs.{is_open, State, id_cmp, numbered_cmp, same, job_state_name, recipe_state_name, BatchRow, Class, Definition, Hold, Job, JobState, Lot, Movement, MovementKind, Recall, Receipt, Recipe, RecipeState, Sublot}
use Rattle.plant_base.specs.declared.rows.MovementKind.TheVariants as kind
use Rattle.plant_view.specs.{batch_row, sublot_row, is_named}
use Rattle.plant_questions.specs.Sorting.{in_order}
use Rattle.plant_questions.specs.declared.cursors.Cursor.{Cursor}

-- the text that a list's ids are to come after: where none is given the empty one, which each id comes after
abbrev pub text_after : Option (List ℕ) → List ℕ
text_after None = []
text_after (Some id) = id

-- the id comes after this one
abbrev pub is_after : Option (List ℕ) → List ℕ → Bool
is_after cursor id = is_gt (id_cmp id (text_after cursor))

abbrev pub is_order_in : JobState → Option (List ℕ) → Job → Bool
is_order_in state cursor j = same (job_state_name j.state) (job_state_name state) && is_after cursor j.order.order

-- the orders in a state
abbrev pub orders_in : State → JobState → Option (List ℕ) → List Job
orders_in s state cursor = filter (is_order_in state cursor) s.jobs

-- both hold, or neither
abbrev pub agree : Bool → Bool → Bool
agree a b = if b then a else not a

abbrev pub is_batch_in : Bool → Option (List ℕ) → BatchRow → Bool
is_batch_in closed cursor r = agree r.closed closed && is_after cursor r.batch.id

-- the batches that are closed, or those that aren't, with what their events made of them
abbrev pub batches_in : State → Bool → Option (List ℕ) → List BatchRow
batches_in s closed cursor = filter (is_batch_in closed cursor) (map (batch_row s.control_lines s.events) s.batches)

abbrev pub is_lot_of : List ℕ → Option (List ℕ) → Lot → Bool
is_lot_of def cursor l = same l.def def && is_after cursor l.id

-- the lots of a definition
abbrev pub lots_of : State → List ℕ → Option (List ℕ) → List Lot
lots_of s def cursor = filter (is_lot_of def cursor) s.lots

abbrev pub is_hold_on : List ℕ → Option (List ℕ) → Hold → Bool
is_hold_on lot cursor h = same h.lot lot && is_after cursor h.id

-- the holds of a lot
abbrev pub holds_on : State → List ℕ → Option (List ℕ) → List Hold
holds_on s lot cursor = filter (is_hold_on lot cursor) s.holds

abbrev pub is_recall_in : Bool → Option (List ℕ) → Recall → Bool
is_recall_in are_open cursor r = agree (is_open r) are_open && is_after cursor r.id

-- the recalls that weren't lifted, or those that were
abbrev pub recalls_in : State → Bool → Option (List ℕ) → List Recall
recalls_in s are_open cursor = filter (is_recall_in are_open cursor) s.recalls

-- the classes
abbrev pub classes_after : State → Option (List ℕ) → List Class
classes_after s cursor = filter (λ c. is_after cursor c.id) s.classes

abbrev pub is_definition_in : List ℕ → Option (List ℕ) → Definition → Bool
is_definition_in class cursor d = same d.class class && is_after cursor d.id

-- the definitions of a class
abbrev pub definitions_in : State → List ℕ → Option (List ℕ) → List Definition
definitions_in s class cursor = filter (is_definition_in class cursor) s.definitions

-- the lot that a movement of this lot brings its amount to from another sublot, its own where it was divided
abbrev pub other_lot : MovementKind → List ℕ → Option (List ℕ)
other_lot (kind.Divided to) lot = Some lot
other_lot (kind.Split to) lot = Some to
other_lot (kind.Merged to) lot = Some to
other_lot _ lot = None

-- the movements that bring something to a lot from another sublot: the split or the merge that made it, and what was divided in it
abbrev pub movements_into : State → List ℕ → List Movement
movements_into s lot = filter (λ m. is_named lot (other_lot m.kind m.lot)) s.movements

-- the movements whose own lot it is: a receipt, productions, and all that takes from it
abbrev pub movements_of_lot : State → List ℕ → List Movement
movements_of_lot s lot = filter (λ m. same m.lot lot) s.movements

-- ---- what is of the lots that come after one

abbrev pub lots_after : State → Option (List ℕ) → List Lot
lots_after s cursor = filter (λ l. is_after cursor l.id) s.lots

abbrev pub sublots_after : State → Option (List ℕ) → List Sublot
sublots_after s cursor = filter (λ r. is_after cursor r.lot) (map (sublot_row s.movements) s.places)

-- the sublots that have stock
abbrev pub sublots_in_stock : State → List Sublot
sublots_in_stock s = filter (λ r. nat_lt 0 r.stock) (map (sublot_row s.movements) s.places)

abbrev pub holds_after : State → Option (List ℕ) → List Hold
holds_after s cursor = filter (λ h. is_after cursor h.lot) s.holds

-- ---- what comes after an id, whatever its state

abbrev pub definitions_after : State → Option (List ℕ) → List Definition
definitions_after s cursor = filter (λ d. is_after cursor d.id) s.definitions

abbrev pub orders_after : State → Option (List ℕ) → List Job
orders_after s cursor = filter (λ j. is_after cursor j.order.order) s.jobs

abbrev pub batches_after : State → Option (List ℕ) → List BatchRow
batches_after s cursor = filter (λ r. is_after cursor r.batch.id) (map (batch_row s.control_lines s.events) s.batches)

abbrev pub recalls_after : State → Option (List ℕ) → List Recall
recalls_after s cursor = filter (λ r. is_after cursor r.id) s.recalls

-- the versions of the recipes that come after one
abbrev pub recipes_after : State → Option (List ℕ) → List Recipe
recipes_after s cursor = filter (λ r. is_after cursor r.header.recipe) s.recipes

-- the versions of a recipe
abbrev pub versions_of : State → List ℕ → List Recipe
versions_of s recipe = filter (λ r. same r.header.recipe recipe) s.recipes

-- ---- lists whose keys are of two values

-- the cursor that a list of recipes is to come after: where none is given, one that each recipe comes after
abbrev pub recipe_after : Option (Cursor (List ℕ) ℕ) → Cursor (List ℕ) ℕ
recipe_after None = record { first = []; second = 0 }
recipe_after (Some place) = place

-- the version of the recipe comes after this cursor
abbrev pub is_recipe_after : Option (Cursor (List ℕ) ℕ) → Recipe → Bool
is_recipe_after cursor r = is_gt (numbered_cmp r.header.recipe r.header.version (recipe_after cursor).first (recipe_after cursor).second)

abbrev pub is_recipe_in : RecipeState → Option (Cursor (List ℕ) ℕ) → Recipe → Bool
is_recipe_in state cursor r = same (recipe_state_name r.state) (recipe_state_name state) && is_recipe_after cursor r

-- the versions of recipes in a state
abbrev pub recipes_in : State → RecipeState → Option (Cursor (List ℕ) ℕ) → List Recipe
recipes_in s state cursor = filter (is_recipe_in state cursor) s.recipes

-- the cursor that a list of orders by their due dates is to come after: where none is given, one that each order comes after
abbrev pub due_after : Option (Cursor (List ℕ) (List ℕ)) → Cursor (List ℕ) (List ℕ)
due_after None = record { first = []; second = [] }
due_after (Some place) = place

-- orders by their due dates, and those of one day by their ids
abbrev pub due_order : Job → Job → Ordering
due_order a b = ordering_then (id_cmp a.order.due b.order.due) (id_cmp a.order.order b.order.order)

-- the order comes after this cursor
abbrev pub is_due_after : Option (Cursor (List ℕ) (List ℕ)) → Job → Bool
is_due_after cursor j = is_gt (ordering_then (id_cmp j.order.due (due_after cursor).first) (id_cmp j.order.order (due_after cursor).second))

abbrev pub is_due_in : JobState → Option (Cursor (List ℕ) (List ℕ)) → Job → Bool
is_due_in state cursor j = same (job_state_name j.state) (job_state_name state) && is_due_after cursor j

-- the orders in a state by their due dates
abbrev pub orders_by_due : State → JobState → Option (Cursor (List ℕ) (List ℕ)) → List Job
orders_by_due s state cursor = in_order due_order (filter (is_due_in state cursor) s.jobs)

-- ---- receipts, by their numbers

-- the number that receipts are to come after: where none is given 0, which each comes after
abbrev pub number_after : Option ℕ → ℕ
number_after None = 0
number_after (Some seq) = seq

abbrev pub number_order : Receipt → Receipt → Ordering
number_order a b = nat_cmp a.seq b.seq

abbrev pub is_number_after : Option ℕ → Receipt → Bool
is_number_after cursor r = is_gt (nat_cmp r.seq (number_after cursor))

-- the receipts of commands, by the numbers of these
abbrev pub receipts_by_number : State → Option ℕ → List Receipt
receipts_by_number s cursor = in_order number_order (filter (is_number_after cursor) s.receipts)

-- ---- ledgers

-- the cursor that a ledger is to come after: where none is given, one that each movement comes after
abbrev pub movement_after : Option (Cursor ℕ ℕ) → Cursor ℕ ℕ
movement_after None = record { first = 0; second = 0 }
movement_after (Some place) = place

-- the movement comes after this cursor
abbrev pub is_movement_after : Option (Cursor ℕ ℕ) → Movement → Bool
is_movement_after cursor m = is_gt (ordering_then (nat_cmp m.seq (movement_after cursor).first) (nat_cmp m.line (movement_after cursor).second))

-- the hold comes after this cursor; where none is given, each hold does
abbrev pub is_hold_after : Option (Cursor (List ℕ) (List ℕ)) → Hold → Bool
is_hold_after None h = is_after None h.lot
is_hold_after (Some place) h = is_gt (ordering_then (id_cmp h.lot place.first) (id_cmp h.id place.second))

-- the holds of all lots
abbrev pub all_holds : State → Option (Cursor (List ℕ) (List ℕ)) → List Hold
all_holds s cursor = filter (is_hold_after cursor) s.holds

-- the lot that a split or a part of a merge makes
abbrev pub lot_made : MovementKind → Option (List ℕ)
lot_made (kind.Split to) = Some to
lot_made (kind.Merged to) = Some to
lot_made _ = None

-- the movement brings to the lot or takes from it, or moves within it
abbrev pub is_in_ledger : List ℕ → Option (Cursor ℕ ℕ) → Movement → Bool
is_in_ledger lot cursor m = (same m.lot lot || is_named lot (lot_made m.kind)) && is_movement_after cursor m

-- the ledger of a lot
abbrev pub ledger_of : State → List ℕ → Option (Cursor ℕ ℕ) → List Movement
ledger_of s lot cursor = filter (is_in_ledger lot cursor) s.movements
