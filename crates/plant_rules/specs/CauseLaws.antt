-- Which refusals are for an item of the command's list.
use Rattle.std.specs.Prelude.{◌≡◌, Bool, true, false, Some, is_some}
use Rattle.plant_base.specs.{State, Command, Envelope, Refusal}
use Rattle.plant_base.specs.declared.refusal.Refusal.TheVariants.{UnknownRecipe, UnknownLot, UnknownSublot, TooLittle, Held, OrderConflict, SizeOutOfRange, MixedMaterials, Recalled}
use Rattle.plant_base.specs.declared.commands.Command.TheVariants as body
use Rattle.plant_rules.specs.Wrong.{wrong}
use Rattle.plant_rules.specs.Causes.{is_for_a_line, item_of}

abbrev pub is_for_an_order : Refusal → Bool
is_for_an_order UnknownRecipe = true
is_for_an_order OrderConflict = true
is_for_an_order SizeOutOfRange = true
is_for_an_order _ = false

abbrev pub is_for_a_part : Refusal → Bool
is_for_a_part UnknownLot = true
is_for_a_part UnknownSublot = true
is_for_a_part TooLittle = true
is_for_a_part Held = true
is_for_a_part MixedMaterials = true
is_for_a_part Recalled = true
is_for_a_part _ = false

abbrev pub is_for_an_item : State → Command → Refusal → Bool
is_for_an_item s (body.ImportOrders c) r = is_for_an_order r
is_for_an_item s (body.Merge c) r = is_for_a_part r
is_for_an_item s (body.AddRecipe c) r = is_for_a_line s c r
is_for_an_item s _ r = false

-- of a command that is refused there is an item just where the refusal is for one
abbrev pub CausesAreTold : Type 0
CausesAreTold = (s : State) (e : Envelope) (r : Refusal) → wrong s e ≡ Some r → is_some (item_of s e.body r) ≡ is_for_an_item s e.body r
