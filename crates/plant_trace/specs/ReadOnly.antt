-- What a call says that only reads.
use Rattle.plant_trace.specs.HoldsIfHonest.{HoldsIfHonest}
use Rattle.plant_trace.specs.declared.edges.Edges.{Ghosts}

-- The call only read: what no call changes has stayed, and where the source ends honest, it was so before, it kept what it keeps, and the fact holds.
abbrev pub ReadOnly : {S F : Type 0} → Ghosts S F → S → S → Type 0 → Type 0
ReadOnly source old new fact = HoldsIfHonest source.honest source.kept source.frame old new fact
