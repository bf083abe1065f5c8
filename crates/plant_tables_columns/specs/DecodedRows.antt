-- What is decoded from all stored rows of a table.
use Rattle.std.specs.Prelude.{List, [], ◌∷◌, Option, Some}
use Rattle.plant_base.specs.{◌>>=◌}

-- the rows in their order: nothing where one can't be decoded
abbrev pub all_from : {X R : Type 0} → (X → Option R) → List X → Option (List R)
all_from row_from [] = Some []
all_from row_from (x ∷ xs) = do
  row ← row_from x
  rows ← all_from row_from xs
  Some (row ∷ rows)
