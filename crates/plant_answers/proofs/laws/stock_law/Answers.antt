use Rattle.std.proofs.Common.{◌≡◌, ◌∙◌, ℕ, ◌+◌, ◌-◌, ◌≤◌, pos, ◌-ℤ◌, sym, ap, arith}
use Rattle.std.proofs.Math.IntN.{+ℤ-neg_ℤ_cancel}
use Rattle.plant_stock.specs.{entered, left}
use Rattle.plant_answers.proofs.laws.stock_law.Goals as goal

-- a difference of numbers that isn't cut off is one of whole numbers
difference : (a b : ℕ) → b ≤ a → pos (a - b) ≡ pos a -ℤ pos b
difference a b within =
    let back : (a - b) + b ≡ a = omega arith in
    sym (+ℤ-neg_ℤ_cancel (pos (a - b)) (pos b)) ∙ ap (λ n. pos n -ℤ pos b) back

pub returns : goal.returns
returns c s sound p = difference (entered s.movements p.lot p.number) (left s.movements p.lot p.number) (sound.stock.covered p.lot p.number)
