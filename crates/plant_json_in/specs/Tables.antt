-- Which members commands, checks and the rows of lists have, in the order in which problems are reported.
use Rattle.std.specs.Prelude.{ℕ, List, [], ◌∷◌}
use Rattle.plant_json_in.specs.declared.members.Member.{Member}
use Rattle.plant_json_in.specs.declared.members.Member.TheVariants as m
use Rattle.plant_json_in.specs.declared.words.RowKind.{RowKind}
use Rattle.plant_json_in.specs.declared.words.RowKind.TheVariants as row

-- no object has more members of its own
abbrev pub most_members : ℕ
most_members = 8

-- the members that each command has
abbrev pub shared_members : List Member
shared_members = m.At ∷ m.By ∷ m.Note ∷ m.Reference ∷ m.Do ∷ []

-- the members of the question what would become of a command: its word and the command
abbrev pub check_members : List Member
check_members = m.Ask ∷ m.Command ∷ []

-- the members of a row of a list
abbrev pub row_own : RowKind → List Member
row_own row.Part = m.Lot ∷ m.Sub ∷ m.Amount ∷ []
row_own row.Order = m.Order ∷ m.Recipe ∷ m.Version ∷ m.Size ∷ m.Due ∷ m.Priority ∷ []
row_own row.In = m.Kind ∷ m.Definition ∷ m.Quantity ∷ []
row_own row.Out = m.Kind ∷ m.Definition ∷ m.Quantity ∷ []
row_own row.Parameter = m.Kind ∷ m.Parameter ∷ m.Value ∷ []
row_own row.Phase = m.Kind ∷ m.UnitProcedure ∷ m.Operation ∷ m.PhaseName ∷ []
