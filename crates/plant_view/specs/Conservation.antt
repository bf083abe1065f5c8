-- Material of one definition: what came in, what went out, and what is in stock.
use Rattle.std.specs.Prelude.{◌≡◌, ℕ, ◌+◌, Bool, true, false, ◌&&◌, if◌then◌else◌, List, Option, Some, None, sum_by}
use Rattle.plant_base.specs.{State, same, lot_at, Lot, MovementKind}
use Rattle.plant_base.specs.declared.rows.MovementKind.TheVariants.{Received, Consumed, Produced, Scrapped, Divided, Split, Merged}
use Rattle.plant_stock.specs.{born_of, left_of}
use Rattle.plant_view.specs.Refusals.{sublot_standing}
use Rattle.plant_view.specs.KeptColumns.{sublots_of}

-- material that comes from outside the lots
abbrev pub is_birth : MovementKind → Bool
is_birth Received = true
is_birth (Produced batch) = true
is_birth (Consumed batch) = false
is_birth Scrapped = false
is_birth (Divided to) = false
is_birth (Split to) = false
is_birth (Merged to) = false

-- material that goes out of the lots
abbrev pub is_end : MovementKind → Bool
is_end Received = false
is_end (Produced batch) = false
is_end (Consumed batch) = true
is_end Scrapped = true
is_end (Divided to) = false
is_end (Split to) = false
is_end (Merged to) = false

abbrev pub is_of_lot : List ℕ → Option Lot → Bool
is_of_lot def None = false
is_of_lot def (Some lot) = same lot.def def

-- the lot is there and of this definition
abbrev pub is_of : State → List ℕ → List ℕ → Bool
is_of s def lot = is_of_lot def (lot_at s lot)

abbrev pub brought : State → List ℕ → ℕ
brought s def = sum_by (λ m. if is_birth m.kind && is_of s def m.lot then m.amount else 0) s.movements

abbrev pub taken : State → List ℕ → ℕ
taken s def = sum_by (λ m. if is_end m.kind && is_of s def m.lot then m.amount else 0) s.movements

-- the stock of all its lots
abbrev pub stocks : State → List ℕ → ℕ
stocks s def = sum_by (λ p. if is_of s def p.lot then sublot_standing s p.lot p.number else 0) s.places

-- nothing is lost and nothing made
abbrev pub IsConserved : State → Type 0
IsConserved s = (def : List ℕ) → brought s def ≡ taken s def + stocks s def

-- ---- one lot

-- the stock of a lot: that of all its sublots
abbrev pub lot_stock : State → List ℕ → ℕ
lot_stock s lot = sum_by (λ r. r.stock) (sublots_of s lot)

-- each lot's stock is what was born in it less what left it
abbrev pub IsBalanced : State → Type 0
IsBalanced s = (lot : List ℕ) → lot_stock s lot + left_of s.movements lot ≡ born_of s.movements lot
