-- The names of members, and the rules of their values.
use Rattle.std.specs.Prelude.{ℕ, List, ◌++◌, codes, decimal, Bool, true, false}
use Rattle.plant_base.specs.{greatest_amount, greatest_moment, greatest_sublot, greatest_version, greatest_priority, greatest_phase}
use Rattle.plant_json_in.specs.declared.members.Member.{Member}
use Rattle.plant_json_in.specs.declared.members.Member.TheVariants as m
use Rattle.plant_json_in.specs.declared.members.MemberRule.{MemberRule}
use Rattle.plant_json_in.specs.declared.members.MemberRule.TheVariants as rule

-- the name of a member, and the rule of its value
abbrev pub entry_of : Member → List ℕ × MemberRule
entry_of m.At = (codes "at", rule.Moment)
entry_of m.By = (codes "by", rule.Text)
entry_of m.Note = (codes "note", rule.Text)
entry_of m.Reference = (codes "ref", rule.Id)
entry_of m.Do = (codes "do", rule.Command)
entry_of m.Ask = (codes "ask", rule.Question)
entry_of m.Class = (codes "class", rule.Id)
entry_of m.Name = (codes "name", rule.Text)
entry_of m.Definition = (codes "def", rule.Id)
entry_of m.Unit = (codes "unit", rule.Unit)
entry_of m.Lot = (codes "lot", rule.Id)
entry_of m.Sub = (codes "sub", rule.Number 0 greatest_sublot)
entry_of m.Amount = (codes "amount", rule.Amount)
entry_of m.Place = (codes "place", rule.Text)
entry_of m.New = (codes "new", rule.Id)
entry_of m.Parts = (codes "parts", rule.List)
entry_of m.Hold = (codes "hold", rule.Id)
entry_of m.Recall = (codes "recall", rule.Id)
entry_of m.Recipe = (codes "recipe", rule.Id)
entry_of m.Version = (codes "version", rule.Number 1 greatest_version)
entry_of m.Product = (codes "product", rule.Id)
entry_of m.Base = (codes "base", rule.Amount)
entry_of m.Least = (codes "min", rule.Amount)
entry_of m.Greatest = (codes "max", rule.Amount)
entry_of m.Title = (codes "title", rule.Text)
entry_of m.Lines = (codes "lines", rule.List)
entry_of m.Orders = (codes "orders", rule.List)
entry_of m.Order = (codes "order", rule.Id)
entry_of m.Batch = (codes "batch", rule.Id)
entry_of m.Word = (codes "word", rule.Word)
entry_of m.Phase = (codes "phase", rule.Small 1 greatest_phase)
entry_of m.Size = (codes "size", rule.Amount)
entry_of m.Due = (codes "due", rule.Due)
entry_of m.Priority = (codes "priority", rule.Small 1 greatest_priority)
entry_of m.Kind = (codes "kind", rule.Kind)
entry_of m.Quantity = (codes "qty", rule.Amount)
entry_of m.Parameter = (codes "name", rule.Id)
entry_of m.Value = (codes "value", rule.Text)
entry_of m.UnitProcedure = (codes "unit", rule.Id)
entry_of m.Operation = (codes "oper", rule.Id)
entry_of m.PhaseName = (codes "phase", rule.Id)
entry_of m.State = (codes "state", rule.OrderState)
entry_of m.Above = (codes "above", rule.Id)
entry_of m.RecipeState = (codes "state", rule.RecipeState)
entry_of m.AfterRecipe = (codes "above", rule.RecipeCursor)
entry_of m.AfterDue = (codes "above", rule.DueCursor)
entry_of m.AfterHold = (codes "above", rule.HoldCursor)
entry_of m.AfterMovement = (codes "above", rule.MovementCursor)
entry_of m.AfterBirth = (codes "above", rule.BirthCursor)
entry_of m.AfterNumber = (codes "above", rule.Amount)
entry_of m.Command = (codes "command", rule.Object)
entry_of m.Beginning = (codes "id", rule.Id)

abbrev pub name_of : Member → List ℕ
name_of which = (entry_of which).0

abbrev pub rule_of : Member → MemberRule
rule_of which = (entry_of which).1

-- the member must be there
abbrev pub is_needed : Member → Bool
is_needed m.Note = false
is_needed m.Reference = false
is_needed m.Above = false
is_needed m.AfterRecipe = false
is_needed m.AfterDue = false
is_needed m.AfterHold = false
is_needed m.AfterMovement = false
is_needed m.AfterBirth = false
is_needed m.AfterNumber = false
is_needed _ = true

-- what a value is that obeys the rule
abbrev pub number_text : ℕ → ℕ → List ℕ
number_text least greatest = codes "a whole number from " ++ decimal least ++ codes " to " ++ decimal greatest

abbrev pub rule_text : MemberRule → List ℕ
rule_text rule.Id = codes "an id: 1 to 24 of A to Z, 0 to 9 and -, the first a letter"
rule_text rule.Text = codes "a text of at most 60 characters, each from the space to ~"
rule_text rule.Unit = codes "a unit: 1 to 8 letters and digits"
rule_text rule.Due = codes "a date like 2027-03-01, of the years 2000 to 2099"
rule_text rule.Amount = codes "a whole number from 1 to " ++ decimal greatest_amount
rule_text rule.Moment = codes "a whole number from 0 to " ++ decimal greatest_moment
rule_text (rule.Number least greatest) = number_text least greatest
rule_text (rule.Small least greatest) = number_text least greatest
rule_text rule.Word = codes "one of start, hold, restart, stop, abort, reset, pause and resume"
rule_text rule.OrderState = codes "one of open, cancelled, released and finished"
rule_text rule.RecipeState = codes "one of draft, approved and withdrawn"
rule_text rule.RecipeCursor = codes "a recipe and a version of at most 3 digits, with a dot between them"
rule_text rule.DueCursor = codes "a due date and an order, with a dot between them"
rule_text rule.HoldCursor = codes "a lot and a hold, with a dot between them"
rule_text rule.MovementCursor = codes "a number of at most 16 digits and a line of at most 3, with a dot between them"
rule_text rule.BirthCursor = codes "a number of at most 16 digits and a lot, with a dot between them"
rule_text rule.Command = codes "the word of a command"
rule_text rule.Question = codes "the word of a question"
rule_text rule.Kind = codes "one of in, out, par and phase"
rule_text rule.List = codes "a list"
rule_text rule.Object = codes "a JSON object"
