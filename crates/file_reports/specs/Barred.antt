-- Indexes of the desk that can't be made, since something else bears their name.
use Rattle.std.specs.Prelude.{ℕ, Bool, nat_lt, ◌&&◌, if◌then◌else◌, List, [], ◌∷◌, codes, Option, Some, None}
use Rattle.sqlite.specs.Schema.{Schema}
use Rattle.sqlite.specs.Change.{is_used}
use Rattle.file_reports.specs.declared.barred.DeskIndex.{DeskIndex}
use Rattle.file_reports.specs.declared.barred.DeskIndex.TheVariants as index

abbrev pub index_name : DeskIndex → List ℕ
index_name index.BatchEventByBatch = codes "batch_event_by_batch"
index_name index.MovementByLot = codes "movement_by_lot"
index_name index.MovementByBatch = codes "movement_by_batch"
index_name index.EdgeByEnd = codes "edge_by_end"
index_name index.MarkByNode = codes "mark_by_node"
index_name index.DefinitionByClass = codes "definition_by_class"
index_name index.JobByState = codes "job_by_state"
index_name index.BatchByClosed = codes "batch_by_closed"
index_name index.LotByDef = codes "lot_by_def"
index_name index.RecallByState = codes "recall_by_state"
index_name index.RecipeByState = codes "recipe_by_state"
index_name index.MovementByLot2 = codes "movement_by_lot2"
index_name index.JobByDue = codes "job_by_due"
index_name index.ReceiptBySeq = codes "receipt_by_seq"
index_name index.SublotByStock = codes "sublot_by_stock"

-- the schema that adds it
abbrev pub schema_of : DeskIndex → ℕ
schema_of index.BatchEventByBatch = 2
schema_of index.MovementByLot = 2
schema_of index.MovementByBatch = 2
schema_of index.EdgeByEnd = 2
schema_of index.MarkByNode = 4
schema_of index.DefinitionByClass = 4
schema_of index.JobByState = 4
schema_of index.BatchByClosed = 4
schema_of index.LotByDef = 4
schema_of index.RecallByState = 4
schema_of index.RecipeByState = 4
schema_of index.MovementByLot2 = 4
schema_of index.JobByDue = 4
schema_of index.ReceiptBySeq = 4
schema_of index.SublotByStock = 4

abbrev pub all_indexes : List DeskIndex
all_indexes = index.BatchEventByBatch ∷ index.MovementByLot ∷ index.MovementByBatch ∷ index.EdgeByEnd ∷ index.MarkByNode ∷ index.DefinitionByClass ∷ index.JobByState ∷ index.BatchByClosed ∷ index.LotByDef ∷ index.RecallByState ∷ index.RecipeByState ∷ index.MovementByLot2 ∷ index.JobByDue ∷ index.ReceiptBySeq ∷ index.SublotByStock ∷ []

-- a later schema than this adds the index, and something bears its name
abbrev pub is_barred : Schema → ℕ → DeskIndex → Bool
is_barred there schema i = nat_lt schema (schema_of i) && is_used there (index_name i)

abbrev pub first_barred : Schema → ℕ → List DeskIndex → Option DeskIndex
first_barred there schema [] = None
first_barred there schema (i ∷ is) = if is_barred there schema i then Some i else first_barred there schema is

-- the first index that can't be made as tables of this schema are migrated, 0 meaning none
abbrev pub barred_index : Schema → ℕ → Option DeskIndex
barred_index there schema = first_barred there schema all_indexes
