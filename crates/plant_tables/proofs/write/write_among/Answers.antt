use Rattle.std.proofs.Common.{refl}
use Rattle.plant_tables.specs.{sublot_table, rows_changed}
use Rattle.plant_tables.proofs.StatementsOnDesk.{put_moved}
use Rattle.plant_tables.proofs.DeskStatements.{puts_either}
use Rattle.plant_tables.proofs.write.write_among.Goals as goal

pub returns-in_ok-stock-in-Sublot-clause-moved : goal.returns-in_ok-stock-in-Sublot-clause-moved
unfolding rows_changed
returns-in_ok-stock-in-Sublot-clause-moved g c clean schema of =
    rw c.in-Sublot.is (put_moved schema 10 sublot_table _ _ refl (puts_either _ c.sublot_text.ensures.added c.sublot_text.ensures.updated) refl _ _ _ (rw c.sublot_values.ensures at (c.put_row.ensures.put clean)))
