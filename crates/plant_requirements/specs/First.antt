-- What is reported of a row, and the first fault that is reported.
use Rattle.std.specs.Prelude.{ℕ, Bool, true, false, List, [], ◌∷◌, Option, Some, None}
pub use Rattle.plant_requirements.specs.declared.fault.Column.{Column}
pub use Rattle.plant_requirements.specs.declared.fault.Found.{Found}
pub use Rattle.plant_requirements.specs.declared.fault.RowKey.{RowKey}
pub use Rattle.plant_requirements.specs.declared.fault.RowFault.{RowFault}
pub use Rattle.plant_requirements.specs.declared.table_names.Table.{Table}
pub use Rattle.plant_requirements.specs.declared.fault.Wanted.{Wanted}
use Rattle.plant_requirements.specs.declared.fault.Found.TheVariants as found
use Rattle.plant_requirements.specs.declared.fault.Wanted.TheVariants as wanted

-- the fault of the row of this table and key: this is in a column, where that is wanted
abbrev pub in_column : Table × RowKey → Column → Found → Wanted → RowFault
in_column place c f w = record {
  table = place.0;
  key = place.1;
  column = Some c;
  found = f;
  wanted = w;
}

-- the row of this table and key, where the id in its column is that of no row of the other table
abbrev pub names_none : Table × RowKey → Column → List ℕ → Table → RowFault
names_none place c id other = in_column place c (found.Id id) (wanted.Key other)

-- the row of this table and key, where this is wanted of it as a whole
abbrev pub as_a_whole : Table × RowKey → Wanted → RowFault
as_a_whole place w = record {
  table = place.0;
  key = place.1;
  column = None;
  found = found.Row;
  wanted = w;
}

-- the fault, where the rule isn't obeyed
abbrev pub fault_unless : Bool → RowFault → Option RowFault
fault_unless true f = None
fault_unless false f = Some f

-- the one, where there is one, and else the other
abbrev pub or_fault : Option RowFault → Option RowFault → Option RowFault
or_fault None rest = rest
or_fault (Some f) rest = Some f

-- what a row has to meet: whether it does, and what is reported where it doesn't
abbrev pub Requirement : Type 0
Requirement = Bool × RowFault

-- what is reported of the first that isn't met
abbrev pub first_unmet : List Requirement → Option RowFault
first_unmet [] = None
first_unmet (r ∷ rs) = or_fault (fault_unless r.0 r.1) (first_unmet rs)

-- the fault of the first of the rows that have one
abbrev pub first_reported : {R : Type 0} → (R → Option RowFault) → List R → Option RowFault
first_reported fault_of [] = None
first_reported fault_of (r ∷ rs) = or_fault (fault_of r) (first_reported fault_of rs)
