-- The indexes that serve lookups in tables of the desk.
use Rattle.std.specs.Prelude.{◌≡◌, ℕ, ◌==◌, nat_le, if◌then◌else◌, List, [], ◌∷◌, ◌++◌, slice_get, Some, codes}
use Rattle.sqlite.specs.Schema.{Schema}
use Rattle.plant_base.specs.{newest_schema}
use Rattle.sql_tables.specs.{IndexDef, HasIndex}
use Rattle.plant_tables.specs.DeskTableDefs.{definition_table, recipe_table, job_table, batch_table, batch_event_table, lot_table, sublot_table, movement_table, edge_table, receipt_table, recall_table, mark_table}

abbrev pub batch_event_by_batch : IndexDef
batch_event_by_batch = record { name = codes "batch_event_by_batch"; table = batch_event_table; column_indexes = 2 ∷ [] }

abbrev pub movement_by_lot : IndexDef
movement_by_lot = record { name = codes "movement_by_lot"; table = movement_table; column_indexes = 4 ∷ 1 ∷ 2 ∷ [] }

abbrev pub movement_by_batch : IndexDef
movement_by_batch = record { name = codes "movement_by_batch"; table = movement_table; column_indexes = 8 ∷ [] }

abbrev pub edge_by_end : IndexDef
edge_by_end = record { name = codes "edge_by_end"; table = edge_table; column_indexes = 1 ∷ 3 ∷ 2 ∷ [] }

abbrev pub mark_by_node : IndexDef
mark_by_node = record { name = codes "mark_by_node"; table = mark_table; column_indexes = 2 ∷ 3 ∷ [] }

abbrev pub definition_by_class : IndexDef
definition_by_class = record { name = codes "definition_by_class"; table = definition_table; column_indexes = 2 ∷ 1 ∷ [] }

abbrev pub job_by_state : IndexDef
job_by_state = record { name = codes "job_by_state"; table = job_table; column_indexes = 7 ∷ 1 ∷ [] }

abbrev pub batch_by_closed : IndexDef
batch_by_closed = record { name = codes "batch_by_closed"; table = batch_table; column_indexes = 9 ∷ 1 ∷ [] }

abbrev pub lot_by_def : IndexDef
lot_by_def = record { name = codes "lot_by_def"; table = lot_table; column_indexes = 2 ∷ 1 ∷ [] }

abbrev pub recall_by_state : IndexDef
recall_by_state = record { name = codes "recall_by_state"; table = recall_table; column_indexes = 3 ∷ 1 ∷ [] }

abbrev pub recipe_by_state : IndexDef
recipe_by_state = record { name = codes "recipe_by_state"; table = recipe_table; column_indexes = 8 ∷ 1 ∷ 2 ∷ [] }

abbrev pub movement_by_lot2 : IndexDef
movement_by_lot2 = record { name = codes "movement_by_lot2"; table = movement_table; column_indexes = 6 ∷ 1 ∷ 2 ∷ [] }

abbrev pub job_by_due : IndexDef
job_by_due = record { name = codes "job_by_due"; table = job_table; column_indexes = 7 ∷ 5 ∷ 1 ∷ [] }

abbrev pub receipt_by_seq : IndexDef
receipt_by_seq = record { name = codes "receipt_by_seq"; table = receipt_table; column_indexes = 2 ∷ [] }

abbrev pub sublot_by_stock : IndexDef
sublot_by_stock = record { name = codes "sublot_by_stock"; table = sublot_table; column_indexes = 4 ∷ 1 ∷ 2 ∷ [] }

-- those that the second schema adds
abbrev pub second_indexes : List IndexDef
second_indexes = batch_event_by_batch ∷ movement_by_lot ∷ movement_by_batch ∷ edge_by_end ∷ []

-- those that the fourth adds
abbrev pub fourth_indexes : List IndexDef
fourth_indexes = mark_by_node ∷ definition_by_class ∷ job_by_state ∷ batch_by_closed ∷ lot_by_def ∷ recall_by_state ∷ recipe_by_state ∷ movement_by_lot2 ∷ job_by_due ∷ receipt_by_seq ∷ sublot_by_stock ∷ []

-- those of a schema: the first has none, and the third those of the second
abbrev pub indexes_of : ℕ → List IndexDef
indexes_of schema = if nat_le 4 schema then second_indexes ++ fourth_indexes else (if nat_le 2 schema then second_indexes else [])

-- those that it adds to the one before it
abbrev pub added_indexes : ℕ → List IndexDef
added_indexes schema = if schema == 2 then second_indexes else (if schema == 4 then fourth_indexes else [])

-- those that later ones add
abbrev pub later_indexes : ℕ → List IndexDef
later_indexes schema = if nat_le 4 schema then [] else (if nat_le 2 schema then fourth_indexes else second_indexes ++ fourth_indexes)

-- those of the newest
abbrev pub desk_indexes : List IndexDef
desk_indexes = indexes_of newest_schema

-- each of these is there
abbrev pub HasIndexes : List IndexDef → Schema → Type 0
HasIndexes indexes schema = (i : ℕ) (index : IndexDef) → slice_get indexes i ≡ Some index → HasIndex schema index
