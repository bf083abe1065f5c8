-- The marks that a store holds are those of what open recalls reach.
use Rattle.std.proofs.Common.{refl}
use Rattle.plant_view.specs.{edges_of, marks}
use Rattle.plant_view.proofs.MarkChanges.{are_the_pairs}
use Rattle.plant_tables.specs.{mark_table}
use Rattle.plant_desk_store.specs.{MarksAreReached}

pub marks_reached : MarksAreReached
marks_reached db s holds =
    let are = are_the_pairs s.recalls (edges_of s) in
    record { rows = marks s.recalls (edges_of s); represents = holds.each 16 mark_table refl; once = are.0; pairs = are.1 }
