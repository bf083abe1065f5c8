use Rattle.std.proofs.Common.{refl, []}
use Rattle.plant_keyed.proofs.keyed.Keyed.page_after.Goals as goal

pub page_found-requires : goal.page_found-requires
page_found-requires g c = ([], c.requires.0, rw c.first_key.ensures c.requires.1)

pub returns-clause-rows : goal.returns-clause-rows
returns-clause-rows g c next text clean =
    rw (c.first_key.ensures, c.word.ensures, c.text_after.ensures, c.small.ensures) at (c.page_found.ensures.rows [] next (rw c.first_key.ensures text)
    (record { long = refl; known = rw (c.word.ensures, c.small.ensures) refl; up_to = rw c.small.ensures refl }) clean)
