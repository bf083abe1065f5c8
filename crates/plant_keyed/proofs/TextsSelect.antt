-- The texts of the pages, by computing what the parser reads.
use Rattle.std.proofs.Common.{refl, [], ◌∷◌, codes}
use Rattle.sqlite_tied.specs.Compute.{everything}
use Rattle.sql_queries.specs.{SelectsPage, first_of}
use Rattle.plant_tables.specs.DeskTableDefs.{class_table, definition_table, recipe_table, job_table, batch_table, lot_table, sublot_table, movement_table, hold_table, receipt_table, recall_table}

-- ---- pages

pub orders_in_state : SelectsPage job_table (first_of job_table.keys) (7 ∷ []) 1 (codes "SELECT id, recipe, version, size, due, priority, state FROM job WHERE state = ?1 AND id > ?2 ORDER BY id LIMIT ?3")
unfolding everything
orders_in_state = record { readable = refl; compared = refl; bounded = refl; ordered = refl; parameters = codes "?1" ∷ codes "?2" ∷ codes "?3" ∷ []; written = refl }

pub batches_by_closed : SelectsPage batch_table (first_of batch_table.keys) (9 ∷ []) 1 (codes "SELECT id, job, at, by_who, note, state, attempt, next, closed FROM batch WHERE closed = ?1 AND id > ?2 ORDER BY id LIMIT ?3")
unfolding everything
batches_by_closed = record { readable = refl; compared = refl; bounded = refl; ordered = refl; parameters = codes "?1" ∷ codes "?2" ∷ codes "?3" ∷ []; written = refl }

pub lots_of_definition : SelectsPage lot_table (first_of lot_table.keys) (2 ∷ []) 1 (codes "SELECT id, def FROM lot WHERE def = ?1 AND id > ?2 ORDER BY id LIMIT ?3")
unfolding everything
lots_of_definition = record { readable = refl; compared = refl; bounded = refl; ordered = refl; parameters = codes "?1" ∷ codes "?2" ∷ codes "?3" ∷ []; written = refl }

pub holds_on_lot : SelectsPage hold_table (first_of hold_table.keys) (1 ∷ []) 2 (codes "SELECT lot, id, at, by_who, note FROM hold WHERE lot = ?1 AND id > ?2 ORDER BY lot, id LIMIT ?3")
unfolding everything
holds_on_lot = record { readable = refl; compared = refl; bounded = refl; ordered = refl; parameters = codes "?1" ∷ codes "?2" ∷ codes "?3" ∷ []; written = refl }

pub recalls_in_state : SelectsPage recall_table (first_of recall_table.keys) (3 ∷ []) 1 (codes "SELECT id, lot, state, at, by_who, note, lift_at, lift_by, lift_note FROM recall WHERE state = ?1 AND id > ?2 ORDER BY id LIMIT ?3")
unfolding everything
recalls_in_state = record { readable = refl; compared = refl; bounded = refl; ordered = refl; parameters = codes "?1" ∷ codes "?2" ∷ codes "?3" ∷ []; written = refl }

pub definitions_of_class : SelectsPage definition_table (first_of definition_table.keys) (2 ∷ []) 1 (codes "SELECT id, class, name, unit FROM definition WHERE class = ?1 AND id > ?2 ORDER BY id LIMIT ?3")
unfolding everything
definitions_of_class = record { readable = refl; compared = refl; bounded = refl; ordered = refl; parameters = codes "?1" ∷ codes "?2" ∷ codes "?3" ∷ []; written = refl }

-- ---- a page of all rows of a table

pub classes_after : SelectsPage class_table (first_of class_table.keys) [] 1 (codes "SELECT id, name FROM class WHERE id > ?1 ORDER BY id LIMIT ?2")
unfolding everything
classes_after = record { readable = refl; compared = refl; bounded = refl; ordered = refl; parameters = codes "?1" ∷ codes "?2" ∷ []; written = refl }

-- ---- pages of all rows of a table whatever their state

pub definitions_after : SelectsPage definition_table (first_of definition_table.keys) [] 1 (codes "SELECT id, class, name, unit FROM definition WHERE id > ?1 ORDER BY id LIMIT ?2")
unfolding everything
definitions_after = record { readable = refl; compared = refl; bounded = refl; ordered = refl; parameters = codes "?1" ∷ codes "?2" ∷ []; written = refl }

pub orders_after : SelectsPage job_table (first_of job_table.keys) [] 1 (codes "SELECT id, recipe, version, size, due, priority, state FROM job WHERE id > ?1 ORDER BY id LIMIT ?2")
unfolding everything
orders_after = record { readable = refl; compared = refl; bounded = refl; ordered = refl; parameters = codes "?1" ∷ codes "?2" ∷ []; written = refl }

pub batches_after : SelectsPage batch_table (first_of batch_table.keys) [] 1 (codes "SELECT id, job, at, by_who, note, state, attempt, next, closed FROM batch WHERE id > ?1 ORDER BY id LIMIT ?2")
unfolding everything
batches_after = record { readable = refl; compared = refl; bounded = refl; ordered = refl; parameters = codes "?1" ∷ codes "?2" ∷ []; written = refl }

pub recalls_after : SelectsPage recall_table (first_of recall_table.keys) [] 1 (codes "SELECT id, lot, state, at, by_who, note, lift_at, lift_by, lift_note FROM recall WHERE id > ?1 ORDER BY id LIMIT ?2")
unfolding everything
recalls_after = record { readable = refl; compared = refl; bounded = refl; ordered = refl; parameters = codes "?1" ∷ codes "?2" ∷ []; written = refl }

pub recipes_after : SelectsPage recipe_table (first_of recipe_table.keys) [] 1 (codes "SELECT id, version, product, base, low, high, title, state FROM recipe WHERE id > ?1 ORDER BY id, version LIMIT ?2")
unfolding everything
recipes_after = record { readable = refl; compared = refl; bounded = refl; ordered = refl; parameters = codes "?1" ∷ codes "?2" ∷ []; written = refl }

-- ---- pages of what lots have, lot by lot

pub lots_after : SelectsPage lot_table (first_of lot_table.keys) [] 1 (codes "SELECT id, def FROM lot WHERE id > ?1 ORDER BY id LIMIT ?2")
unfolding everything
lots_after = record { readable = refl; compared = refl; bounded = refl; ordered = refl; parameters = codes "?1" ∷ codes "?2" ∷ []; written = refl }

pub sublots_after : SelectsPage sublot_table (first_of sublot_table.keys) [] 1 (codes "SELECT lot, no, place, stock FROM sublot WHERE lot > ?1 ORDER BY lot, no LIMIT ?2")
unfolding everything
sublots_after = record { readable = refl; compared = refl; bounded = refl; ordered = refl; parameters = codes "?1" ∷ codes "?2" ∷ []; written = refl }

pub holds_after : SelectsPage hold_table (first_of hold_table.keys) [] 1 (codes "SELECT lot, id, at, by_who, note FROM hold WHERE lot > ?1 ORDER BY lot, id LIMIT ?2")
unfolding everything
holds_after = record { readable = refl; compared = refl; bounded = refl; ordered = refl; parameters = codes "?1" ∷ codes "?2" ∷ []; written = refl }

-- ---- all rows with more than an amount

pub sublots_above : SelectsPage sublot_table (first_of sublot_table.keys) [] 4 (codes "SELECT lot, no, place, stock FROM sublot WHERE stock > ?1 ORDER BY lot, no LIMIT ?2")
unfolding everything
sublots_above = record { readable = refl; compared = refl; bounded = refl; ordered = refl; parameters = codes "?1" ∷ codes "?2" ∷ []; written = refl }

-- ---- pages of lists whose keys are of two values

pub recipes_in_state_at : SelectsPage recipe_table (first_of recipe_table.keys) (8 ∷ 1 ∷ []) 2 (codes "SELECT id, version, product, base, low, high, title, state FROM recipe WHERE state = ?1 AND id = ?2 AND version > ?3 ORDER BY id, version LIMIT ?4")
unfolding everything
recipes_in_state_at = record { readable = refl; compared = refl; bounded = refl; ordered = refl; parameters = codes "?1" ∷ codes "?2" ∷ codes "?3" ∷ codes "?4" ∷ []; written = refl }

pub recipes_in_state : SelectsPage recipe_table (first_of recipe_table.keys) (8 ∷ []) 1 (codes "SELECT id, version, product, base, low, high, title, state FROM recipe WHERE state = ?1 AND id > ?2 ORDER BY id, version LIMIT ?3")
unfolding everything
recipes_in_state = record { readable = refl; compared = refl; bounded = refl; ordered = refl; parameters = codes "?1" ∷ codes "?2" ∷ codes "?3" ∷ []; written = refl }

pub ledger_at : SelectsPage movement_table (first_of movement_table.keys) (4 ∷ 1 ∷ []) 2 (codes "SELECT seq, line, kind, lot, sub, lot2, sub2, batch, amount, at, by_who, note FROM movement WHERE lot = ?1 AND seq = ?2 AND line > ?3 ORDER BY seq, line LIMIT ?4")
unfolding everything
ledger_at = record { readable = refl; compared = refl; bounded = refl; ordered = refl; parameters = codes "?1" ∷ codes "?2" ∷ codes "?3" ∷ codes "?4" ∷ []; written = refl }

pub ledger : SelectsPage movement_table (first_of movement_table.keys) (4 ∷ []) 1 (codes "SELECT seq, line, kind, lot, sub, lot2, sub2, batch, amount, at, by_who, note FROM movement WHERE lot = ?1 AND seq > ?2 ORDER BY seq, line LIMIT ?3")
unfolding everything
ledger = record { readable = refl; compared = refl; bounded = refl; ordered = refl; parameters = codes "?1" ∷ codes "?2" ∷ codes "?3" ∷ []; written = refl }

pub ledger_by_second_at : SelectsPage movement_table (first_of movement_table.keys) (6 ∷ 1 ∷ []) 2 (codes "SELECT seq, line, kind, lot, sub, lot2, sub2, batch, amount, at, by_who, note FROM movement WHERE lot2 = ?1 AND seq = ?2 AND line > ?3 ORDER BY seq, line LIMIT ?4")
unfolding everything
ledger_by_second_at = record { readable = refl; compared = refl; bounded = refl; ordered = refl; parameters = codes "?1" ∷ codes "?2" ∷ codes "?3" ∷ codes "?4" ∷ []; written = refl }

pub ledger_by_second : SelectsPage movement_table (first_of movement_table.keys) (6 ∷ []) 1 (codes "SELECT seq, line, kind, lot, sub, lot2, sub2, batch, amount, at, by_who, note FROM movement WHERE lot2 = ?1 AND seq > ?2 ORDER BY seq, line LIMIT ?3")
unfolding everything
ledger_by_second = record { readable = refl; compared = refl; bounded = refl; ordered = refl; parameters = codes "?1" ∷ codes "?2" ∷ codes "?3" ∷ []; written = refl }

-- ---- pages in another order than that of a table's key

pub orders_by_due_at : SelectsPage job_table (5 ∷ 1 ∷ []) (7 ∷ 5 ∷ []) 1 (codes "SELECT id, recipe, version, size, due, priority, state FROM job WHERE state = ?1 AND due = ?2 AND id > ?3 ORDER BY due, id LIMIT ?4")
unfolding everything
orders_by_due_at = record { readable = refl; compared = refl; bounded = refl; ordered = refl; parameters = codes "?1" ∷ codes "?2" ∷ codes "?3" ∷ codes "?4" ∷ []; written = refl }

pub orders_by_due : SelectsPage job_table (5 ∷ 1 ∷ []) (7 ∷ []) 5 (codes "SELECT id, recipe, version, size, due, priority, state FROM job WHERE state = ?1 AND due > ?2 ORDER BY due, id LIMIT ?3")
unfolding everything
orders_by_due = record { readable = refl; compared = refl; bounded = refl; ordered = refl; parameters = codes "?1" ∷ codes "?2" ∷ codes "?3" ∷ []; written = refl }

pub receipts_after : SelectsPage receipt_table (2 ∷ []) [] 2 (codes "SELECT id, seq, content FROM receipt WHERE seq > ?1 ORDER BY seq LIMIT ?2")
unfolding everything
receipts_after = record { readable = refl; compared = refl; bounded = refl; ordered = refl; parameters = codes "?1" ∷ codes "?2" ∷ []; written = refl }
