-- Rows that are read one after the other.
use Rattle.std.proofs.Common.{List, ◌++◌, Option, option_map}
use Rattle.plant_tables_columns.specs.{all_from}

module _ {X R : Type 0} (row_from : X → Option R) where
  -- the rows that were read, before what is decoded from the rest of the list
  abbrev pub reads_on : List R → List X → Option (List R)
  reads_on rows xs = option_map (λ more. rows ++ more) (all_from row_from xs)
