-- Lots, and how their sublots came to be.
use Rattle.std.specs.Prelude.{ℕ, Bool, true, false, ◌&&◌, ◌==◌, nat_le, if◌then◌else◌, List, [], ◌∷◌, length, map, filter}
use Rattle.std.specs.List.{list_any, list_all}
use Rattle.plant_base.specs.{greatest_amount, same, Definition, Hold, Lot, Sublot}
use Rattle.plant_requirements.specs.{are_numbered}
use Rattle.plant_view.specs.{is_defined}
use Rattle.plant_tables_columns.specs.{BookedRow, MovementKindCode}
use Rattle.plant_tables_columns.specs.declared.booked.MovementKindCode.TheVariants as kind_code
use Rattle.plant_check_rules.specs.SublotFlows.{entries, total_booked}

-- 0, or 0 and 1, and so on
abbrev pub are_from_zero : List ℕ → Bool
are_from_zero numbers = nat_le 1 (length numbers) && are_numbered 0 numbers

abbrev pub sublots_among : List Sublot → List ℕ → List Sublot
sublots_among sublots lot = filter (λ s. same s.lot lot) sublots

-- its definition is there, and its sublots are numbered from 0 on
unfoldable pub is_right_lot : List Definition → List Sublot → Lot → Bool
is_right_lot definitions sublots l = is_defined definitions l.def && are_from_zero (map (λ s. s.number) (sublots_among sublots l.id))

-- a movement of this sort makes a lot
abbrev pub makes_a_lot : MovementKindCode → Bool
makes_a_lot kind_code.Received = true
makes_a_lot kind_code.Consumed = false
makes_a_lot kind_code.Produced = true
makes_a_lot kind_code.Scrapped = false
makes_a_lot kind_code.Divided = false
makes_a_lot kind_code.Split = true
makes_a_lot kind_code.Merged = true

abbrev pub is_division_code : MovementKindCode → Bool
is_division_code kind_code.Divided = true
is_division_code _ = false

-- both are of this sort
abbrev pub have_same_kind_code : MovementKindCode → MovementKindCode → Bool
have_same_kind_code kind_code.Received kind_code.Received = true
have_same_kind_code kind_code.Produced kind_code.Produced = true
have_same_kind_code kind_code.Split kind_code.Split = true
have_same_kind_code kind_code.Merged kind_code.Merged = true
have_same_kind_code _ _ = false

-- of the same number and the same sort, which makes a lot
abbrev pub is_of_one_birth : BookedRow → BookedRow → Bool
is_of_one_birth first r = r.seq == first.seq && have_same_kind_code first.kind_code r.kind_code

-- there are some, all of one number and of one sort that makes a lot, and they bring no more than an amount
abbrev pub is_one_birth : List BookedRow → Bool
is_one_birth [] = false
is_one_birth (r ∷ rows) = list_all (is_of_one_birth r) (r ∷ rows) && nat_le (total_booked (r ∷ rows)) greatest_amount

-- it is one, and a division
abbrev pub is_one_division : List BookedRow → Bool
is_one_division [] = false
is_one_division (r ∷ []) = is_division_code r.kind_code
is_one_division (r ∷ s ∷ rows) = false

-- sublot 0 came to be with its lot, each other sublot by one division
abbrev pub is_born : List BookedRow → Sublot → Bool
is_born rows s = if s.number == 0 then is_one_birth (entries rows s.lot s.number) else is_one_division (entries rows s.lot s.number)

abbrev pub is_lot_among : List Lot → List ℕ → Bool
is_lot_among lots id = list_any (λ l. same l.id id) lots

unfoldable pub is_right_sublot : List Lot → List BookedRow → Sublot → Bool
is_right_sublot lots rows s = is_lot_among lots s.lot && is_born rows s

-- no sublot and no hold is without its lot, and each sublot came to be
abbrev pub are_in_lots : List Lot → List Sublot → List Hold → List BookedRow → Bool
are_in_lots lots sublots holds rows = list_all (is_right_sublot lots rows) sublots && list_all (λ h. is_lot_among lots h.lot) holds

-- and each lot is right
abbrev pub are_lots : List Definition → List Lot → List Sublot → List Hold → List BookedRow → Bool
are_lots definitions lots sublots holds rows = list_all (is_right_lot definitions sublots) lots && are_in_lots lots sublots holds rows
