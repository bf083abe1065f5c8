use Rattle.plant_tables.proofs.TableTexts.{inserts_sublot, upserts_sublot}
use Rattle.plant_tables.proofs.write.sublot_text.Goals as goal

pub returns-then-add_lot_of-clause-added : goal.returns-then-add_lot_of-clause-added
returns-then-add_lot_of-clause-added c = λ _. inserts_sublot

pub returns-else-add_lot_of-clause-updated : goal.returns-else-add_lot_of-clause-updated
returns-else-add_lot_of-clause-updated c = λ _. upserts_sublot
