use Rattle.std.proofs.Common.{refl, []}
use Rattle.plant_keyed.proofs.keyed.Keyed.receipts_page_after.Goals as goal

pub receipts_page_found-requires : goal.receipts_page_found-requires
receipts_page_found-requires g c = ([], c.requires.0, c.requires.1)

pub returns-clause-rows : goal.returns-clause-rows
returns-clause-rows g c next text clean =
    rw (c.in_ok-large.ensures.value, c.number_after.ensures, c.small.ensures) at (c.receipts_page_found.ensures.rows [] next text
    (record { long = refl; known = rw (c.in_ok-large.ensures.value, c.small.ensures) refl; up_to = rw c.small.ensures refl }) clean)
