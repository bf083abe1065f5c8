use Rattle.plant_keyed.proofs.edges.cached_by.Goals as goal

pub returns-clause-turned : goal.returns-clause-turned
returns-clause-turned c = rw (c.as_slice.ensures.value, c.in_ok-pairs.ensures) at c.new.ensures.turned
