use Rattle.std.proofs.Common.{refl, [], ◌∷◌}
use Rattle.plant_keyed.proofs.keyed.Keyed.page_with.Goals as goal

pub page_found-requires : goal.page_found-requires
page_found-requires g c = (c.requires.0 ∷ [], c.requires.1, rw c.first_key.ensures c.requires.2)

pub returns-clause-rows : goal.returns-clause-rows
returns-clause-rows g c place next text known clean =
    rw (c.first_key.ensures, c.word.ensures, c.text_after.ensures, c.small.ensures) at (c.page_found.ensures.rows (place ∷ []) next (rw c.first_key.ensures text)
    (record { long = refl; known = rw (known, c.word.ensures, c.small.ensures) refl; up_to = rw c.small.ensures refl }) clean)
