-- A command that is refused for an item has one that fails.
use Rattle.std.proofs.Common.{◌≡◌, ◌∙◌, ℕ, ◌+◌, true, false, Bool, cond, List, [], ◌∷◌, Option, Some, None, is_some, is_none, refl, ap, subst, not, ◌&&◌, ◌||◌, nat_lt, if◌then◌else◌}
use Rattle.std.specs.List.{list_any, list_all, position_from}
use Rattle.plant_base.specs.{content_of, greatest_amount, State, same, definition_at, recipe_at, lot_at, place_at, AddRecipe, Command, Definition, Envelope, ImportOrders, Merge, Part, Receipt, RecipeLine, Refusal}
use Rattle.plant_base.specs.declared.refusal.Refusal.TheVariants.{BadForm, MomentBack, Exists, UnknownDefinition, UnknownRecipe, UnknownLot, UnknownSublot, TooLittle, TooMuch, Held, OrderConflict, SizeOutOfRange, MixedMaterials, TooMany, RefReused, Recalled}
use Rattle.plant_base.specs.declared.commands.Command.TheVariants as body
use Rattle.plant_view.specs.{is_known, refuse, at_limit}
use Rattle.plant_rules_production.specs.{wrong_import_orders, wrong_add_recipe}
use Rattle.plant_rules.specs.{is_short, is_some_held, is_some_blocked, is_mixed, wrong_parts, wrong_merge, is_well_formed_body, wrong, wrong_body, wrong_there, kept_for, decoded}
use Rattle.plant_stock.specs.{total_of}
use Rattle.plant_rules.specs.{first_failing, is_bad_order, is_bad_part, is_missing, is_for_a_line, item_of, is_for_an_order, is_for_a_part, is_for_an_item}

-- ---- the refusals of a condition

-- what holds of the refusal of a condition that fails, and of those that follow, holds of the refusal
refuse_gives : (P : Refusal → Type 0) (b : Bool) (q : Refusal) (rest : Option Refusal) (r : Refusal) → (b ≡ true → P q) → (rest ≡ Some r → P r) → refuse b q rest ≡ Some r → P r
refuse_gives P true q rest r here later e = let same_refusal : q ≡ r = cc in subst P same_refusal (here refl)
refuse_gives P false q rest r here later e = later e

ended : (P : Refusal → Type 0) (r : Refusal) → None ≡ Some r → P r
ended P r e = absurd cc

decoded_gives : (P : Refusal → Type 0) (k : Option Receipt) (content : List ℕ) (rest : Option Refusal) (r : Refusal) → P RefReused → (rest ≡ Some r → P r) → decoded k content rest ≡ Some r → P r
decoded_gives P None content rest r reused later e = later e
decoded_gives P (Some k) content rest r reused later e = elim (same k.content content) as (λ b. (if b then None else Some RefReused) ≡ Some r → P r) [
  | true ↦ ended P r
  | false ↦ λ f. (let same_refusal : RefReused ≡ r = cc in subst P same_refusal reused)
] e

-- ---- first items

some_first : {X : Type 0} (fails : X → Bool) (k : ℕ) (xs : List X) → is_some (position_from fails k xs) ≡ list_any fails xs
some_first fails k [] = refl
some_first fails k (x ∷ xs) = elim (fails x) as (λ b. is_some (cond b (Some k) (position_from fails (k + 1) xs)) ≡ (b || list_any fails xs)) [
  | true ↦ refl
  | false ↦ some_first fails (k + 1) xs
]

none_fails : {X : Type 0} (fails : X → Bool) (xs : List X) → ((x : X) → fails x ≡ false) → list_any fails xs ≡ false
none_fails fails [] none = refl
none_fails fails (x ∷ xs) none = ap (λ b. b || list_any fails xs) (none x) ∙ none_fails fails xs none

or_true : (a b : Bool) → b ≡ true → (a || b) ≡ true
or_true true b e = refl
or_true false b e = e

-- ---- imports

abbrev IsTold : State → ImportOrders → Refusal → Type 0
IsTold s c r = is_some (first_failing (is_bad_order s c.orders r) c.orders) ≡ is_for_an_order r

told : (s : State) (c : ImportOrders) (r : Refusal) → list_any (is_bad_order s c.orders r) c.orders ≡ is_for_an_order r → IsTold s c r
told s c r e = some_first (is_bad_order s c.orders r) 1 c.orders ∙ e

order_told : (s : State) (c : ImportOrders) (r : Refusal) → wrong_import_orders s c ≡ Some r → IsTold s c r
order_told s c r =
    let P = IsTold s c in
    refuse_gives P (list_any (is_bad_order s c.orders UnknownRecipe) c.orders) UnknownRecipe _ r (told s c UnknownRecipe)
    (refuse_gives P (list_any (is_bad_order s c.orders OrderConflict) c.orders) OrderConflict _ r (told s c OrderConflict)
    (refuse_gives P (list_any (is_bad_order s c.orders SizeOutOfRange) c.orders) SizeOutOfRange _ r (told s c SizeOutOfRange)
    (refuse_gives P (at_limit s) TooMany None r (λ t. told s c TooMany (none_fails (is_bad_order s c.orders TooMany) c.orders (λ o. refl))) (ended P r))))

-- ---- merges

abbrev IsReportedPart : State → Merge → Refusal → Type 0
IsReportedPart s c r = is_some (first_failing (is_bad_part s c.parts r) c.parts) ≡ is_for_a_part r

part_is_reported : (s : State) (c : Merge) (r : Refusal) → list_any (is_bad_part s c.parts r) c.parts ≡ is_for_a_part r → IsReportedPart s c r
part_is_reported s c r e = some_first (is_bad_part s c.parts r) 1 c.parts ∙ e

parts_give : (P : Refusal → Type 0) (s : State) (ps : List Part) (rest : Option Refusal) (r : Refusal) → (list_any (is_missing s) ps ≡ true → P UnknownLot) → (list_any (is_missing s) ps ≡ true → P UnknownSublot) → (rest ≡ Some r → P r) → wrong_parts s ps rest ≡ Some r → P r
parts_give P s [] rest r lot sublot later e = later e
parts_give P s (p ∷ ps) rest r lot sublot later e =
    refuse_gives P (is_none (lot_at s p.lot)) UnknownLot _ r (λ t. lot (ap (λ b. (b || is_none (place_at s p.lot p.sub)) || list_any (is_missing s) ps) t))
    (refuse_gives P (is_none (place_at s p.lot p.sub)) UnknownSublot _ r (λ t. sublot (ap (λ b. b || list_any (is_missing s) ps) (or_true (is_none (lot_at s p.lot)) _ t)))
    (parts_give P s ps rest r (λ t. lot (or_true (is_missing s p) _ t)) (λ t. sublot (or_true (is_missing s p) _ t)) later)) e

part_reported : (s : State) (c : Merge) (r : Refusal) → wrong_merge s c ≡ Some r → IsReportedPart s c r
part_reported s c r =
    let P = IsReportedPart s c in
    parts_give P s c.parts _ r (part_is_reported s c UnknownLot) (part_is_reported s c UnknownSublot)
    (refuse_gives P (is_some (lot_at s c.new)) Exists _ r (λ t. part_is_reported s c Exists (none_fails (is_bad_part s c.parts Exists) c.parts (λ p. refl)))
    (refuse_gives P (is_short s c.parts) TooLittle _ r (part_is_reported s c TooLittle)
    (refuse_gives P (nat_lt greatest_amount (total_of c.parts)) TooMuch _ r (λ t. part_is_reported s c TooMuch (none_fails (is_bad_part s c.parts TooMuch) c.parts (λ p. refl)))
    (refuse_gives P (is_some_held s c.parts) Held _ r (part_is_reported s c Held)
    (refuse_gives P (is_mixed s c.parts) MixedMaterials _ r (part_is_reported s c MixedMaterials)
    (refuse_gives P (at_limit s) TooMany _ r (λ t. part_is_reported s c TooMany (none_fails (is_bad_part s c.parts TooMany) c.parts (λ p. refl)))
    (refuse_gives P (is_some_blocked s c.parts) Recalled None r (part_is_reported s c Recalled) (ended P r))))))))

-- ---- recipes

some_unknown : {X : Type 0} (known : X → Bool) (k : ℕ) (xs : List X) → not (list_all known xs) ≡ true → is_some (position_from (λ x. not (known x)) k xs) ≡ true
some_unknown known k [] e = absurd cc
some_unknown known k (x ∷ xs) e = elim (known x) as (λ b. not (b && list_all known xs) ≡ true → is_some (cond (not b) (Some k) (position_from (λ y. not (known y)) (k + 1) xs)) ≡ true) [
  | true ↦ λ f. some_unknown known (k + 1) xs f
  | false ↦ λ f. refl
] e

abbrev IsToldLine : State → AddRecipe → Refusal → Type 0
IsToldLine s c r = is_some (item_of s (body.AddRecipe c) r) ≡ is_for_a_line s c r

-- where the product isn't known the refusal is for no line
no_line : (s : State) (c : AddRecipe) → is_none (definition_at s c.header.product) ≡ true → IsToldLine s c UnknownDefinition
no_line s c = elim (definition_at s c.header.product) as (λ (o : Option Definition). is_none o ≡ true → is_some (if is_some o then first_failing (λ (l : RecipeLine). not (is_known s.definitions l)) c.lines else None) ≡ is_some o) [
  | None ↦ λ e. refl
  | Some d ↦ λ e. absurd cc
]

line_told : (s : State) (c : AddRecipe) (r : Refusal) → wrong_add_recipe s c ≡ Some r → IsToldLine s c r
line_told s c r =
    let P = IsToldLine s c in
    refuse_gives P (is_none (definition_at s c.header.product)) UnknownDefinition _ r (no_line s c)
    (refuse_gives P (not (list_all (is_known s.definitions) c.lines)) UnknownDefinition _ r
    (λ t. elim (is_some (definition_at s c.header.product)) as (λ b. is_some (if b then first_failing (λ (l : RecipeLine). not (is_known s.definitions l)) c.lines else None) ≡ b) [
      | true ↦ some_unknown (is_known s.definitions) 1 c.lines t
      | false ↦ refl
    ])
    (refuse_gives P (is_some (recipe_at s c.header.recipe c.header.version)) Exists _ r (λ t. refl)
    (refuse_gives P (at_limit s) TooMany None r (λ t. refl) (ended P r))))

-- ---- all commands

abbrev IsToldOf : State → Command → Refusal → Type 0
IsToldOf s c r = is_some (item_of s c r) ≡ is_for_an_item s c r

-- for the form of a command, its reference and its moment there is no item
outer : (s : State) (c : Command) → IsToldOf s c BadForm × IsToldOf s c RefReused × IsToldOf s c MomentBack
outer s (body.ImportOrders c) = (told s c BadForm (none_fails (is_bad_order s c.orders BadForm) c.orders (λ o. refl)), told s c RefReused (none_fails (is_bad_order s c.orders RefReused) c.orders (λ o. refl)), told s c MomentBack (none_fails (is_bad_order s c.orders MomentBack) c.orders (λ o. refl)))
outer s (body.Merge c) = (part_is_reported s c BadForm (none_fails (is_bad_part s c.parts BadForm) c.parts (λ p. refl)), part_is_reported s c RefReused (none_fails (is_bad_part s c.parts RefReused) c.parts (λ p. refl)), part_is_reported s c MomentBack (none_fails (is_bad_part s c.parts MomentBack) c.parts (λ p. refl)))
outer s (body.AddRecipe c) = (refl, refl, refl)
outer s _ = (refl, refl, refl)

body_told : (s : State) (c : Command) (r : Refusal) → wrong_body s c ≡ Some r → IsToldOf s c r
body_told s (body.ImportOrders c) r e = order_told s c r e
body_told s (body.Merge c) r e = part_reported s c r e
body_told s (body.AddRecipe c) r e = line_told s c r e
body_told s _ r e = refl

pub causes_are_told : (s : State) (e : Envelope) (r : Refusal) → wrong s e ≡ Some r → is_some (item_of s e.body r) ≡ is_for_an_item s e.body r
unfolding wrong
causes_are_told s e r =
    let P = IsToldOf s e.body in
    let none = outer s e.body in
    refuse_gives P (not (is_well_formed_body e.body)) BadForm _ r (λ t. none.0)
    (decoded_gives P (kept_for s e) (content_of e) (wrong_there s e) r none.1
    (refuse_gives P (nat_lt e.at s.at) MomentBack _ r (λ t. none.2) (body_told s e.body r)))
