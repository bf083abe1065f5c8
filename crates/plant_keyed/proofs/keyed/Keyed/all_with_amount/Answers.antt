use Rattle.std.proofs.Common.{refl}
use Rattle.std.specs.Float.Ieee
use Rattle.plant_keyed.proofs.keyed.Keyed.all_with_amount.Goals as goal

pub found_above-requires : goal.found_above-requires
found_above-requires g c = (c.requires.0, rw c.first_key.ensures c.requires.1)

pub returns-clause-rows : goal.returns-clause-rows
unfolding Ieee.is_nan Ieee.of_bits
returns-clause-rows g c next text clean =
    rw (c.first_key.ensures, c.in_ok-large.ensures.value, c.from.ensures) at (c.found_above.ensures.rows next (rw c.first_key.ensures text)
    (record { long = refl; known = rw c.in_ok-large.ensures.value refl; up_to = rw (c.in_ok-large.ensures.value, c.from.ensures) refl }) clean)
