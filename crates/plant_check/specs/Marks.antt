-- Marks of what no open recall reaches, and marks that are missing.
use Rattle.std.specs.Prelude.{Bool, List, Option, None}
use Rattle.std.specs.List.{list_any}
use Rattle.std.specs.Ordering.{is_eq}
use Rattle.plant_base.specs.{mark_order, Mark, Movement, Recall}
use Rattle.plant_view.specs.{edges_among, marks}
use Rattle.plant_requirements.specs.{mark_key}
use Rattle.plant_requirements.specs.{fault_unless, or_fault, first_reported, Found, RowFault, Wanted}
use Rattle.plant_requirements.specs.declared.table_names.Table.TheVariants as table
use Rattle.plant_requirements.specs.declared.fault.Found.TheVariants as found
use Rattle.plant_requirements.specs.declared.fault.Wanted.TheVariants as wanted

abbrev pub is_mark_among : List Mark → Mark → Bool
is_mark_among among m = list_any (λ d. is_eq (mark_order d m)) among

-- the fault of the mark, where it is none of these: what is reported as found, and as wanted
abbrev pub mark_fault : Found → Wanted → List Mark → Mark → Option RowFault
mark_fault f w among m = fault_unless (is_mark_among among m) (record {
  table = table.Mark;
  key = mark_key m;
  column = None;
  found = f;
  wanted = w;
})

-- the first of the rows that marks what no open recall reaches, or else the first mark that isn't among them
abbrev pub mark_fault_among : List Mark → List Mark → Option RowFault
mark_fault_among reached rows = or_fault (first_reported (mark_fault found.Row wanted.NoRow reached) rows) (first_reported (mark_fault found.Nothing wanted.Mark rows) reached)

abbrev pub mark_fault_in : List Recall → List Movement → List Mark → Option RowFault
mark_fault_in recalls movements rows = mark_fault_among (marks recalls (edges_among movements)) rows
