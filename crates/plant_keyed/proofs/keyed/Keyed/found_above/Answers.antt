use Rattle.plant_keyed.proofs.keyed.Keyed.found_above.Goals as goal

pub rows_above-requires : goal.rows_above-requires
rows_above-requires g c = c.requires
