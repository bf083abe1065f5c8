-- The test that a lookup by a sublot makes.
use Rattle.std.proofs.Common.{◌≡◌, ℕ, List, Option, Some, None, refl}
use Rattle.plant_base.specs.{numbered_cmp}
use Rattle.grouped_rows.specs.{is_keyed}
use Rattle.plant_requirements.proofs.KeyTests.{pairs_tie}
use Rattle.plant_stock.specs.{is_sublot_key}

pub placed : (o : Option (List ℕ × ℕ)) (lot : List ℕ) (number : ℕ) → is_keyed (λ (a b : List ℕ × ℕ). numbered_cmp a.0 a.1 b.0 b.1) o (lot, number) ≡ is_sublot_key o lot number
placed None lot number = refl
placed (Some k) lot number = pairs_tie k.0 lot k.1 number
