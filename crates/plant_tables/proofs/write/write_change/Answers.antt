use Rattle.std.proofs.Common.{refl, subst}
use Rattle.plant_tables.specs.DeskTableDefs.{meta_table, class_table, definition_table, recipe_table, recipe_line_table, job_table, batch_table, control_line_table, batch_event_table, lot_table, sublot_table, movement_table, hold_table, edge_table, receipt_table, recall_table, mark_table}
use Rattle.plant_tables.specs.{rows_changed, IsOfSchema}
use Rattle.plant_tables.proofs.DeskStatements.{puts_at, takes_hold, takes_marks}
use Rattle.plant_tables.proofs.StatementsOnDesk.{put_moved, take_moved}
use Rattle.plant_tables.proofs.TablesInSchemas.{edge_place, receipt_place, recall_place, mark_place}
use Rattle.plant_tables_columns.specs.{booked_of, stated_of}
use Rattle.plant_tables_columns.proofs.TableLaws.{master_line_lawful, batch_lawful, control_line_lawful, booked_lawful, stated_lawful}
use Rattle.plant_tables.proofs.write.write_change.Goals as goal

pub returns-in_ok-seq-in-Meta-clause-moved : goal.returns-in_ok-seq-in-Meta-clause-moved
unfolding rows_changed
returns-in_ok-seq-in-Meta-clause-moved g c clean schema of = rw c.in-Meta.is (put_moved schema 0 meta_table _ _ refl (puts_at 0 refl refl) refl _ _ _ (rw c.meta_values.ensures at (c.put_row.ensures.put clean)))

pub returns-in-Class-clause-moved : goal.returns-in-Class-clause-moved
unfolding rows_changed
returns-in-Class-clause-moved g c clean schema of = rw c.in-Class.is (put_moved schema 1 class_table _ _ refl (puts_at 1 refl refl) refl _ _ _ (rw c.class_values.ensures at (c.put_row-in-Class.ensures.put clean)))

pub returns-in-Definition-clause-moved : goal.returns-in-Definition-clause-moved
unfolding rows_changed
returns-in-Definition-clause-moved g c clean schema of = rw c.in-Definition.is (put_moved schema 2 definition_table _ _ refl (puts_at 2 refl refl) refl _ _ _ (rw c.definition_values.ensures at (c.put_row-in-Definition.ensures.put clean)))

pub returns-in-Recipe-clause-moved : goal.returns-in-Recipe-clause-moved
unfolding rows_changed
returns-in-Recipe-clause-moved g c clean schema of = rw c.in-Recipe.is (put_moved schema 3 recipe_table _ _ refl (puts_at 3 refl refl) refl _ _ _ (rw c.recipe_values.ensures at (c.put_row-in-Recipe.ensures.put clean)))

pub returns-in-MasterLine-clause-moved : goal.returns-in-MasterLine-clause-moved
unfolding rows_changed
returns-in-MasterLine-clause-moved g c clean schema of = rw c.in-MasterLine.is (put_moved schema 4 recipe_line_table _ _ refl (puts_at 4 refl refl) (master_line_lawful.fits c.in-MasterLine.row) _ _ _ (rw c.master_line_values.ensures at (c.put_row-in-MasterLine.ensures.put clean)))

pub returns-in-Job-clause-moved : goal.returns-in-Job-clause-moved
unfolding rows_changed
returns-in-Job-clause-moved g c clean schema of = rw c.in-Job.is (put_moved schema 5 job_table _ _ refl (puts_at 5 refl refl) refl _ _ _ (rw c.job_values.ensures at (c.put_row-in-Job.ensures.put clean)))

pub returns-in-Batch-clause-moved : goal.returns-in-Batch-clause-moved
unfolding rows_changed
returns-in-Batch-clause-moved g c clean schema of = rw c.in-Batch.is (put_moved schema 6 batch_table _ _ refl (puts_at 6 refl refl) (batch_lawful.fits c.in-Batch.row) _ _ _ (rw c.batch_values.ensures at (c.put_row-in-Batch.ensures.put clean)))

pub returns-in-ControlLine-clause-moved : goal.returns-in-ControlLine-clause-moved
unfolding rows_changed
returns-in-ControlLine-clause-moved g c clean schema of = rw c.in-ControlLine.is (put_moved schema 7 control_line_table _ _ refl (puts_at 7 refl refl) (control_line_lawful.fits c.in-ControlLine.row) _ _ _ (rw c.control_line_values.ensures at (c.put_row-in-ControlLine.ensures.put clean)))

pub returns-in_ok-seq-in-Event-clause-moved : goal.returns-in_ok-seq-in-Event-clause-moved
unfolding rows_changed
returns-in_ok-seq-in-Event-clause-moved g c clean schema of = rw c.in-Event.is (put_moved schema 8 batch_event_table _ _ refl (puts_at 8 refl refl) refl _ _ _ (rw c.event_values.ensures at (c.put_row-in-Event.ensures.put clean)))

pub returns-in-Lot-clause-moved : goal.returns-in-Lot-clause-moved
unfolding rows_changed
returns-in-Lot-clause-moved g c clean schema of = rw c.in-Lot.is (put_moved schema 9 lot_table _ _ refl (puts_at 9 refl refl) refl _ _ _ (rw c.lot_values.ensures at (c.put_row-in-Lot.ensures.put clean)))

pub returns-in_ok-stock-in-Sublot-clause-moved : goal.returns-in_ok-stock-in-Sublot-clause-moved
unfolding rows_changed
returns-in_ok-stock-in-Sublot-clause-moved g c clean schema of = rw c.in-Sublot.is (put_moved schema 10 sublot_table _ _ refl (puts_at 10 refl refl) refl _ _ _ (rw c.sublot_values.ensures at (c.put_row-in-Sublot.ensures.put clean)))

pub returns-in_ok-seq-in-Movement-clause-moved : goal.returns-in_ok-seq-in-Movement-clause-moved
unfolding rows_changed
returns-in_ok-seq-in-Movement-clause-moved g c clean schema of = rw c.in-Movement.is (put_moved schema 11 movement_table _ _ refl (puts_at 11 refl refl) (booked_lawful.fits (booked_of c.in-Movement.row)) _ _ _ (rw c.movement_values.ensures at (c.put_row-in-Movement.ensures.put clean)))

pub returns-in-Hold-clause-moved : goal.returns-in-Hold-clause-moved
unfolding rows_changed
returns-in-Hold-clause-moved g c clean schema of = rw c.in-Hold.is (put_moved schema 12 hold_table _ _ refl (puts_at 12 refl refl) refl _ _ _ (rw c.hold_values.ensures at (c.put_row-in-Hold.ensures.put clean)))

pub returns-in-Edge-clause-moved : goal.returns-in-Edge-clause-moved
unfolding rows_changed
returns-in-Edge-clause-moved g c clean schema of = rw c.in-Edge.is (put_moved schema 13 edge_table _ _ (edge_place schema (subst (IsOfSchema schema) c.in-Edge.is of)) (puts_at 13 refl refl) refl _ _ _ (rw c.edge_values.ensures at (c.put_row-in-Edge.ensures.put clean)))

pub returns-in_ok-seq-in-Receipt-clause-moved : goal.returns-in_ok-seq-in-Receipt-clause-moved
unfolding rows_changed
returns-in_ok-seq-in-Receipt-clause-moved g c clean schema of = rw c.in-Receipt.is (put_moved schema 14 receipt_table _ _ (receipt_place schema (subst (IsOfSchema schema) c.in-Receipt.is of)) (puts_at 14 refl refl) refl _ _ _ (rw c.receipt_values.ensures at (c.put_row-in-Receipt.ensures.put clean)))

pub returns-in-Unhold-clause-moved : goal.returns-in-Unhold-clause-moved
unfolding rows_changed
returns-in-Unhold-clause-moved g c clean schema of = rw c.in-Unhold.is (take_moved schema 12 hold_table _ _ _ refl takes_hold _ _ _ (rw (c.id.ensures, c.id-in-Unhold.ensures) at (c.delete_rows.ensures.taken clean)))

pub returns-in-Recall-clause-moved : goal.returns-in-Recall-clause-moved
unfolding rows_changed
returns-in-Recall-clause-moved g c clean schema of = rw c.in-Recall.is (put_moved schema 15 recall_table _ _ (recall_place schema (subst (IsOfSchema schema) c.in-Recall.is of)) (puts_at 15 refl refl) (stated_lawful.fits (stated_of c.in-Recall.row)) _ _ _ (rw c.recall_values.ensures at (c.put_row-in-Recall.ensures.put clean)))

pub returns-in-Mark-clause-moved : goal.returns-in-Mark-clause-moved
unfolding rows_changed
returns-in-Mark-clause-moved g c clean schema of = rw c.in-Mark.is (put_moved schema 16 mark_table _ _ (mark_place schema (subst (IsOfSchema schema) c.in-Mark.is of)) (puts_at 16 refl refl) refl _ _ _ (rw c.mark_values.ensures at (c.put_row-in-Mark.ensures.put clean)))

pub returns-in-Unmark-clause-moved : goal.returns-in-Unmark-clause-moved
unfolding rows_changed
returns-in-Unmark-clause-moved g c clean schema of = rw c.in-Unmark.is (take_moved schema 16 mark_table _ _ _ (mark_place schema (subst (IsOfSchema schema) c.in-Unmark.is of)) takes_marks _ _ _ (rw c.id-in-Unmark.ensures at (c.delete_rows-in-Unmark.ensures.taken clean)))
