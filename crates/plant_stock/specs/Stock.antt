-- What movements bring to a sublot and take from it.
use Rattle.std.specs.Prelude.{ℕ, ◌-◌, Bool, true, false, not, ◌==◌, ◌&&◌, nat_le, if◌then◌else◌, List, filter, Option, Some, None, Result, Ok, Err, sum_by, ℤ, pos, ◌-ℤ◌}
use Rattle.plant_base.specs.{greatest_amount, same, Movement, MovementKind, Part, Refusal}
use Rattle.plant_base.specs.declared.refusal.Refusal.TheVariants.{TooMuch}
use Rattle.plant_base.specs.declared.rows.MovementKind.TheVariants.{Received, Consumed, Produced, Scrapped, Divided, Split, Merged}

-- the lot and sublot that a movement of this kind, lot and sublot brings its amount to
abbrev pub goes_to : MovementKind → List ℕ → ℕ → Option (List ℕ × ℕ)
goes_to Received lot sub = Some (lot, sub)
goes_to (Consumed batch) lot sub = None
goes_to (Produced batch) lot sub = Some (lot, sub)
goes_to Scrapped lot sub = None
goes_to (Divided to) lot sub = Some (lot, to)
goes_to (Split to) lot sub = Some (to, 0)
goes_to (Merged to) lot sub = Some (to, 0)

-- and those that it takes its amount from
abbrev pub comes_from : MovementKind → List ℕ → ℕ → Option (List ℕ × ℕ)
comes_from Received lot sub = None
comes_from (Consumed batch) lot sub = Some (lot, sub)
comes_from (Produced batch) lot sub = None
comes_from Scrapped lot sub = Some (lot, sub)
comes_from (Divided to) lot sub = Some (lot, sub)
comes_from (Split to) lot sub = Some (lot, sub)
comes_from (Merged to) lot sub = Some (lot, sub)

abbrev pub is_sublot_key : Option (List ℕ × ℕ) → List ℕ → ℕ → Bool
is_sublot_key None lot number = false
is_sublot_key (Some place) lot number = same place.0 lot && place.1 == number

abbrev pub entering : Movement → List ℕ → ℕ → ℕ
entering m lot number = if is_sublot_key (goes_to m.kind m.lot m.sub) lot number then m.amount else 0

abbrev pub leaving : Movement → List ℕ → ℕ → ℕ
leaving m lot number = if is_sublot_key (comes_from m.kind m.lot m.sub) lot number then m.amount else 0

-- the movements that brought an amount to the sublot
abbrev pub entries : List Movement → List ℕ → ℕ → List Movement
entries ms lot number = filter (λ m. is_sublot_key (goes_to m.kind m.lot m.sub) lot number) ms

-- what entered the sublot, and what left it
unfoldable pub entered : List Movement → List ℕ → ℕ → ℕ
entered ms lot number = sum_by (λ m. entering m lot number) ms

unfoldable pub left : List Movement → List ℕ → ℕ → ℕ
left ms lot number = sum_by (λ m. leaving m lot number) ms

-- what entered less what left
abbrev pub stock : List Movement → List ℕ → ℕ → ℤ
stock ms lot number = pos (entered ms lot number) -ℤ pos (left ms lot number)

-- ---- a whole lot

-- a division moves an amount within its lot
abbrev pub is_division : MovementKind → Bool
is_division Received = false
is_division (Consumed batch) = false
is_division (Produced batch) = false
is_division Scrapped = false
is_division (Divided to) = true
is_division (Split to) = false
is_division (Merged to) = false

abbrev pub is_in_lot : Option (List ℕ × ℕ) → List ℕ → Bool
is_in_lot None lot = false
is_in_lot (Some place) lot = same place.0 lot

abbrev pub entering_lot : Movement → List ℕ → ℕ
entering_lot m lot = if not (is_division m.kind) && is_in_lot (goes_to m.kind m.lot m.sub) lot then m.amount else 0

abbrev pub leaving_lot : Movement → List ℕ → ℕ
leaving_lot m lot = if not (is_division m.kind) && is_in_lot (comes_from m.kind m.lot m.sub) lot then m.amount else 0

-- what came into the lot as it was made, and what left it since; divisions aren't counted
unfoldable pub born_of : List Movement → List ℕ → ℕ
born_of ms lot = sum_by (λ m. entering_lot m lot) ms

unfoldable pub left_of : List Movement → List ℕ → ℕ
left_of ms lot = sum_by (λ m. leaving_lot m lot) ms

-- ---- a merge

-- the amounts of the parts in all
abbrev pub total_of : List Part → ℕ
total_of ps = sum_by (λ p. p.amount) ps

-- too much above the greatest amount
abbrev pub merged_total_of : List Part → Result ℕ Refusal
merged_total_of ps = if nat_le (total_of ps) greatest_amount then Ok (total_of ps) else Err TooMuch

-- a merge has no more parts
abbrev pub greatest_parts : ℕ
greatest_parts = 16

-- both are parts of a merge into one lot
abbrev pub are_one_merge : MovementKind → MovementKind → Bool
are_one_merge (Merged a) (Merged b) = same a b
are_one_merge _ _ = false

-- both take from one sublot
abbrev pub is_one_source : Movement → Movement → Bool
is_one_source a b = same a.lot b.lot && a.sub == b.sub
