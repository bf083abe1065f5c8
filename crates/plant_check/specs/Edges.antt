-- Edges that no movement makes, and edges that are missing.
use Rattle.std.specs.Prelude.{ℕ, Bool, ◌||◌, nat_lt, List, Option, Some, None}
use Rattle.std.specs.List.{list_any}
use Rattle.std.specs.Ordering.{is_eq}
use Rattle.plant_base.specs.{edge_order, EdgeRow, Movement}
use Rattle.plant_view.specs.{edge_row_of, edges_in}
use Rattle.plant_requirements.specs.{edge_key}
use Rattle.plant_requirements.specs.{as_a_whole, fault_unless, or_fault, first_reported, RowFault}
use Rattle.plant_requirements.specs.declared.table_names.Table.TheVariants as table
use Rattle.plant_requirements.specs.declared.fault.Found.TheVariants as found
use Rattle.plant_requirements.specs.declared.fault.Wanted.TheVariants as wanted

abbrev pub is_edge_among : List EdgeRow → EdgeRow → Bool
is_edge_among edges e = list_any (λ d. is_eq (edge_order d e)) edges

-- the edge, where it is none of these
abbrev pub stray_edge_fault : List EdgeRow → EdgeRow → Option RowFault
stray_edge_fault made e = fault_unless (is_edge_among made e) (as_a_whole (table.Edge, edge_key e) wanted.NoRow)

-- the edge that a movement makes, where it isn't there in a schema that keeps edges
abbrev pub missing_edge : ℕ → List EdgeRow → Movement → Option EdgeRow → Option RowFault
missing_edge schema rows m None = None
missing_edge schema rows m (Some e) = fault_unless (nat_lt schema 2 || is_edge_among rows e) (record {
  table = table.Edge;
  key = edge_key e;
  column = None;
  found = found.Nothing;
  wanted = wanted.EdgeOf m.seq m.line;
})

abbrev pub missing_edge_fault : ℕ → List EdgeRow → Movement → Option RowFault
missing_edge_fault schema rows m = missing_edge schema rows m (edge_row_of m)

-- the first edge that no movement makes, or else the first that a movement makes and that isn't there
abbrev pub edge_fault_in : ℕ → List EdgeRow → List Movement → Option RowFault
edge_fault_in schema rows ms = or_fault (first_reported (stray_edge_fault (edges_in schema ms)) rows) (first_reported (missing_edge_fault schema rows) ms)
