-- Material classes and definitions.
use Rattle.std.specs.Prelude.{ℕ, Bool, List, Option}
use Rattle.std.specs.List.{list_any}
use Rattle.plant_base.specs.{same, Class, Definition}
use Rattle.plant_requirements.specs.First.{RowFault, fault_unless, first_reported, names_none}
use Rattle.plant_requirements.specs.Keys.{id_key}
use Rattle.plant_requirements.specs.declared.table_names.Table.TheVariants as table
use Rattle.plant_requirements.specs.declared.fault.Column.TheVariants as column

abbrev pub is_class_among : List Class → List ℕ → Bool
is_class_among classes id = list_any (λ c. same c.id id) classes

-- the definition's class is there
abbrev pub class_fault : List Class → Definition → Option RowFault
class_fault classes d = fault_unless (is_class_among classes d.class) (names_none (table.Definition, id_key d.id) column.Class d.class table.Class)

abbrev pub class_fault_in : List Class → List Definition → Option RowFault
class_fault_in classes definitions = first_reported (class_fault classes) definitions
