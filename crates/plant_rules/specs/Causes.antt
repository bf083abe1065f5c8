-- What would become of a command, and which item of its list is the cause where it would be refused.
use Rattle.std.specs.Prelude.{ℕ, Bool, false, not, ◌||◌, List, Option, Some, None, is_some, is_none, nat_lt, if◌then◌else◌}
use Rattle.std.specs.List.{position_from}
use Rattle.plant_base.specs.{State, same, definition_at, recipe_at, job_at, lot_at, place_at, AddRecipe, Command, Envelope, OrderRow, Part, Refusal}
use Rattle.plant_base.specs.declared.refusal.Refusal.TheVariants.{UnknownDefinition, UnknownRecipe, UnknownLot, UnknownSublot, TooLittle, Held, OrderConflict, SizeOutOfRange, MixedMaterials, Recalled}
use Rattle.plant_base.specs.declared.commands.Command.TheVariants as body
use Rattle.plant_view.specs.{is_known, is_size_of_recipe, is_blocked, sublot_standing, is_held}
use Rattle.plant_rules_production.specs.{conflicts}
use Rattle.plant_rules.specs.Merging.{def_at, def_of_parts}
use Rattle.plant_rules.specs.Wrong.{wrong}
use Rattle.plant_rules.specs.declared.checking.Checked.{Checked}
use Rattle.plant_rules.specs.declared.checking.Checked.TheVariants.{Accepted, Refused}

-- the number, counted from 1, of the first item that fails
abbrev pub first_failing : {X : Type 0} → (X → Bool) → List X → Option ℕ
first_failing fails items = position_from fails 1 items

-- ---- which items fail the condition that a refusal names

-- an order, among those of its import
abbrev pub is_bad_order : State → List OrderRow → Refusal → OrderRow → Bool
is_bad_order s orders UnknownRecipe o = is_none (recipe_at s o.recipe o.version)
is_bad_order s orders OrderConflict o = conflicts orders (job_at s o.order) o
is_bad_order s orders SizeOutOfRange o = not (is_size_of_recipe (recipe_at s o.recipe o.version) o.size)
is_bad_order s orders _ o = false

-- the part's lot or sublot isn't there
abbrev pub is_missing : State → Part → Bool
is_missing s p = is_none (lot_at s p.lot) || is_none (place_at s p.lot p.sub)

-- the part asks for more than there is
abbrev pub is_short_of : State → Part → Bool
is_short_of s p = nat_lt (sublot_standing s p.lot p.sub) p.amount

-- the part's lot is of another definition than that of the first part
abbrev pub is_other : State → List Part → Part → Bool
is_other s parts p = not (same (def_at s p.lot) (def_of_parts s parts))

-- a part, among those of its merge
abbrev pub is_bad_part : State → List Part → Refusal → Part → Bool
is_bad_part s parts UnknownLot p = is_missing s p
is_bad_part s parts UnknownSublot p = is_missing s p
is_bad_part s parts TooLittle p = is_short_of s p
is_bad_part s parts Held p = is_held s p.lot
is_bad_part s parts MixedMaterials p = is_other s parts p
is_bad_part s parts Recalled p = is_blocked s p.lot
is_bad_part s parts _ p = false

-- the refusal is for a line of the new recipe, whose product is known
abbrev pub is_for_a_line : State → AddRecipe → Refusal → Bool
is_for_a_line s c UnknownDefinition = is_some (definition_at s c.header.product)
is_for_a_line s c _ = false

-- ---- the first of them

-- the first item of the command's list that fails the condition which the refusal names, where it is one of items
abbrev pub item_of : State → Command → Refusal → Option ℕ
item_of s (body.ImportOrders c) r = first_failing (is_bad_order s c.orders r) c.orders
item_of s (body.Merge c) r = first_failing (is_bad_part s c.parts r) c.parts
item_of s (body.AddRecipe c) r = if is_for_a_line s c r then first_failing (λ l. not (is_known s.definitions l)) c.lines else None
item_of s _ r = None

-- ---- what would become of a command

abbrev pub checked_by : State → Command → Option Refusal → Checked
checked_by s c None = Accepted
checked_by s c (Some r) = Refused r (item_of s c r)

-- accepted where no condition fails, and else refused by the first that does, with the item that fails it
unfoldable pub checked : State → Envelope → Checked
checked s e = checked_by s e.body (wrong s e)
