-- Conditions: the first one that fails names the refusal.
use Rattle.std.specs.Prelude.{ℕ, ◌-◌, Bool, Option, Some, filter, length, if◌then◌else◌, nat_le, List}
use Rattle.plant_base.specs.{greatest_seq, State, same, Hold, Refusal}
use Rattle.plant_stock.specs.{entered, left}

-- refused where the test holds, and else for what follows
abbrev pub refuse : Bool → Refusal → Option Refusal → Option Refusal
refuse b r rest = if b then Some r else rest

-- no further command is accepted
abbrev pub at_limit : State → Bool
at_limit s = nat_le greatest_seq s.seq

-- the stock of a sublot: what entered it less what left it
abbrev pub sublot_standing : State → List ℕ → ℕ → ℕ
sublot_standing s lot number = entered s.movements lot number - left s.movements lot number

-- the holds of a lot
abbrev pub holds_of : State → List ℕ → List Hold
holds_of s lot = filter (λ h. same h.lot lot) s.holds

-- a lot with at least one hold
abbrev pub is_held : State → List ℕ → Bool
is_held s lot = nat_le 1 (length (holds_of s lot))
