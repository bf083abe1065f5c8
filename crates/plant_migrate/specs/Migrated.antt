-- The changes that migrate tables of a schema to the next, and what becomes of the tables.
use Rattle.std.specs.Prelude.{◌≡◌, ℕ, zero, suc, ◌+◌, ◌==◌, List, [], Option, option_map, option_and_then, if◌then◌else◌, filter_map}
use Rattle.std.specs.List.{AllByRecursion}
use Rattle.plant_base.specs.{EdgeRow, Position}
use Rattle.plant_view.specs.{edge_row_of, changed_all, RowChange}
use Rattle.plant_view.specs.TableRows.{Tables}
use Rattle.plant_view.specs.declared.change.RowChange.TheVariants as change
use Rattle.plant_tables.specs.{migration}
use Rattle.plant_tables_columns.specs.{movement_from, BookedRow}

-- the edge that a booked movement makes, where it makes one
abbrev pub edge_booked : BookedRow → Option EdgeRow
edge_booked r = option_and_then edge_row_of (movement_from r)

abbrev pub edge_change : BookedRow → Option RowChange
edge_change r = option_map change.Edge (edge_booked r)

-- an edge for each movement that makes one, where tables of this version have no edges yet
abbrev pub edges_from : ℕ → List BookedRow → List RowChange
edges_from version booked = if version == 1 then filter_map edge_change booked else []

-- each change puts an edge
abbrev pub AreEdges : List RowChange → Type 0
AreEdges = AllByRecursion (λ c. (e : EdgeRow) × (c ≡ change.Edge e))

-- the rows of the tables that the schema after this version adds: the edges are the second's, and receipts, recalls and
-- marks there are none
abbrev pub added_rows : ℕ → List RowChange → List RowChange
added_rows version edges = if version == 1 then edges else []

-- the tables of a version, migrated to the next
abbrev pub migrated_once : ℕ → Position → List RowChange → Tables → Tables
migrated_once version position edges t = changed_all (migration version position (added_rows version edges)) t

-- migrated by so many versions, one after the other
abbrev pub migrated_by : ℕ → ℕ → Position → List RowChange → Tables → Tables
migrated_by zero version position edges t = t
migrated_by (suc n) version position edges t = migrated_once (version + n) position edges (migrated_by n version position edges t)
