-- Numbers in order files.
use Rattle.std.specs.Prelude.{ℕ, ◌&&◌, nat_le, List, Option, Some, None, option_and_then, if◌then◌else◌}
use Rattle.plant_base.specs.{digits_of}

abbrev pub most_digits : ℕ
most_digits = 16

-- the number from 1 to the greatest that 1 to 16 digits spell
unfoldable pub bounded : ℕ → List ℕ → Option ℕ
bounded greatest text = option_and_then (λ n. if nat_le 1 n && nat_le n greatest then Some n else None) (digits_of most_digits text)
