-- The scaling of an amount from a recipe's base to a size.
use Rattle.std.specs.Prelude.{◌≡◌, ℕ, ◌+◌, ◌*◌, ◌/◌, ◌<◌, ◌≤◌}

-- the amount times the size over the base, rounded half up
abbrev pub scaled_of : ℕ → ℕ → ℕ → ℕ
scaled_of amount size base = (2 * amount * size + base) / (2 * base)

-- the number lies at most half above the quotient and less than half below it
pub record IsRoundedHalfUp (number dividend divisor : ℕ) : Type 0 where
  pub not_above : 2 * number * divisor ≤ 2 * dividend + divisor
  pub not_below : 2 * dividend + divisor < 2 * (number + 1) * divisor

-- a greater size scales to no less
abbrev pub RisesWithSize : Type 0
RisesWithSize = (amount low high base : ℕ) → low ≤ high → scaled_of amount low base ≤ scaled_of amount high base

-- the base itself changes nothing
abbrev pub KeepsAtBase : Type 0
KeepsAtBase = (amount base : ℕ) → 0 < base → scaled_of amount base base ≡ amount
