-- What a query of one table shows of a row.
use Rattle.std.proofs.Common.{ℕ, Bool, List, [], ◌∷◌, map}
use Rattle.std.specs.List.{list_all}
use Rattle.sqlite_value.specs.Order.{Row, column}
use Rattle.sqlite_sql.specs.Term.{Term, holds}

-- the values of these column indexes, 0 being the rowid
abbrev pub at_places : List ℕ → Row → Row
at_places column_indexes row = map (column row) column_indexes

-- the row passes each term of WHERE, under these parameters
abbrev pub passes_all : Row → List Term → Row → Bool
passes_all params terms row = list_all (holds (params ∷ row ∷ [])) terms
