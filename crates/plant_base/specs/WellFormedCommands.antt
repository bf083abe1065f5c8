-- Which lists and numbers of commands are well formed, and what holds of the values of lists.
use Rattle.std.specs.Prelude.{ℕ, Bool, true, false, ◌&&◌, ◌==◌, not, nat_le, List, [], ◌∷◌, length, IsTrue, All}
use Rattle.std.specs.List.{list_all, list_any}
use Rattle.plant_values.specs.{is_id, is_text, is_amount, greatest_sublot, greatest_version, greatest_priority, greatest_phase}
use Rattle.plant_values.specs.{is_due}
use Rattle.plant_base.specs.PlantState.{same}
use Rattle.plant_base.specs.declared.states.Word.{Word}
use Rattle.plant_base.specs.declared.states.Word.TheVariants.{Done}
use Rattle.plant_base.specs.declared.rows.Header.{Header}
use Rattle.plant_base.specs.declared.rows.RecipeLine.{RecipeLine}
use Rattle.plant_base.specs.declared.rows.RecipeLine.TheVariants as line
use Rattle.plant_base.specs.declared.rows.OrderRow.{OrderRow}
use Rattle.plant_base.specs.declared.command.Part.{Part}
use Rattle.plant_base.specs.declared.command.Merge.{Merge}
use Rattle.plant_base.specs.declared.command.AddRecipe.{AddRecipe}
use Rattle.plant_base.specs.declared.command.ImportOrders.{ImportOrders}

-- ---- the parts of a merge

abbrev pub has_sublot : Part → Bool
has_sublot p = nat_le p.sub greatest_sublot

abbrev pub is_same_sublot : Part → Part → Bool
is_same_sublot p q = same p.lot q.lot && p.sub == q.sub

-- no two of them take from one sublot
abbrev pub are_apart : List Part → Bool
are_apart [] = true
are_apart (p ∷ ps) = not (list_any (is_same_sublot p) ps) && are_apart ps

-- 1 to 16 parts of distinct sublots
abbrev pub are_parts : List Part → Bool
are_parts ps = nat_le 1 (length ps) && nat_le (length ps) 16 && list_all has_sublot ps && are_apart ps

-- ---- recipes and orders

-- 1 to 999
abbrev pub is_version : ℕ → Bool
is_version n = nat_le 1 n && nat_le n greatest_version

-- 1 to 9
abbrev pub is_priority : ℕ → Bool
is_priority n = nat_le 1 n && nat_le n greatest_priority

-- the numbers of an order are a version and a priority
abbrev pub has_numbers : OrderRow → Bool
has_numbers o = is_version o.version && is_priority o.priority

-- at most 1,000 orders, each with its numbers
abbrev pub are_orders : List OrderRow → Bool
are_orders orders = nat_le (length orders) 1000 && list_all has_numbers orders

-- ---- batches

-- a word that is commanded, and not the ending of a state
abbrev pub is_command_word : Word → Bool
is_command_word Done = false
is_command_word _ = true

-- 1 to 128
abbrev pub is_phase_number : ℕ → Bool
is_phase_number n = nat_le 1 n && nat_le n greatest_phase

-- ---- commands that have a list: the numbers and lists whose types don't keep their rules do obey them

abbrev pub is_well_formed_merge : Merge → Bool
is_well_formed_merge c = are_parts c.parts

-- whether the recipe is well formed is a question of its own
abbrev pub is_well_formed_add_recipe : AddRecipe → Bool
is_well_formed_add_recipe c = is_version c.header.version

abbrev pub is_well_formed_import_orders : ImportOrders → Bool
is_well_formed_import_orders c = are_orders c.orders

-- ---- the values of lists, and of the commands that have them

abbrev pub HasPartValues : Part → Type 0
HasPartValues p = IsTrue (is_id p.lot) × IsTrue (is_amount p.amount)

abbrev pub HasLineValues : RecipeLine → Type 0
HasLineValues (line.In def amount) = IsTrue (is_id def) × IsTrue (is_amount amount)
HasLineValues (line.Out def amount) = IsTrue (is_id def) × IsTrue (is_amount amount)
HasLineValues (line.Parameter name value) = IsTrue (is_id name) × IsTrue (is_text value)
HasLineValues (line.Phase unit_procedure operation phase) = IsTrue (is_id unit_procedure) × IsTrue (is_id operation) × IsTrue (is_id phase)

pub record HasHeaderValues (h : Header) : Type 0 where
  pub recipe : IsTrue (is_id h.recipe)
  pub product : IsTrue (is_id h.product)
  pub base : IsTrue (is_amount h.base)
  pub least : IsTrue (is_amount h.least)
  pub greatest : IsTrue (is_amount h.greatest)
  pub title : IsTrue (is_text h.title)

pub record HasOrderValues (o : OrderRow) : Type 0 where
  pub order : IsTrue (is_id o.order)
  pub recipe : IsTrue (is_id o.recipe)
  pub size : IsTrue (is_amount o.size)
  pub due : IsTrue (is_due o.due)

abbrev pub HasMergeValues : Merge → Type 0
HasMergeValues c = IsTrue (is_id c.new) × IsTrue (is_text c.place) × All HasPartValues c.parts

abbrev pub HasAddRecipeValues : AddRecipe → Type 0
HasAddRecipeValues c = HasHeaderValues c.header × All HasLineValues c.lines

abbrev pub HasImportOrdersValues : ImportOrders → Type 0
HasImportOrdersValues c = All HasOrderValues c.orders
