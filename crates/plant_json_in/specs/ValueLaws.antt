-- What the typed values of members are.
use Rattle.std.specs.Prelude.{⊤, ℕ, List, [], ◌∷◌, Bool, true, false, Option, Some, None}
use Rattle.plant_base.specs.{JobState, RecipeState, Word}
use Rattle.plant_questions.specs.{Cursor}
use Rattle.plant_json_in.specs.declared.members.Member.{Member}
use Rattle.plant_json_in.specs.declared.members.MemberRule.{MemberRule}
use Rattle.plant_json_in.specs.declared.members.MemberRule.TheVariants as rule
use Rattle.plant_json_in.specs.declared.fields.Field.{Field}
use Rattle.plant_json_in.specs.declared.fields.Field.TheVariants as field
use Rattle.plant_json_in.specs.Members.{rule_of, is_needed}

-- what a value says that obeys the rule
abbrev pub Means : MemberRule → Type 0
Means rule.Id = List ℕ
Means rule.Text = List ℕ
Means rule.Unit = List ℕ
Means rule.Due = List ℕ
Means rule.Amount = ℕ
Means rule.Moment = ℕ
Means (rule.Number least greatest) = ℕ
Means (rule.Small least greatest) = ℕ
Means rule.Word = Word
Means rule.OrderState = JobState
Means rule.RecipeState = RecipeState
Means rule.RecipeCursor = Cursor (List ℕ) ℕ
Means rule.DueCursor = Cursor (List ℕ) (List ℕ)
Means rule.HoldCursor = Cursor (List ℕ) (List ℕ)
Means rule.MovementCursor = Cursor ℕ ℕ
Means rule.BirthCursor = Cursor ℕ (List ℕ)
Means rule.Command = ⊤
Means rule.Question = ⊤
Means rule.Kind = ⊤
Means rule.List = ⊤
Means rule.Object = ⊤

abbrev pub field_in : (r : MemberRule) → Means r → Field
field_in rule.Id x = field.Id x
field_in rule.Text x = field.Text x
field_in rule.Unit x = field.Unit x
field_in rule.Due x = field.Due x
field_in rule.Amount x = field.Amount x
field_in rule.Moment x = field.Moment x
field_in (rule.Number least greatest) x = field.Number x
field_in (rule.Small least greatest) x = field.Small x
field_in rule.Word x = field.Word x
field_in rule.OrderState x = field.OrderState x
field_in rule.RecipeState x = field.RecipeState x
field_in rule.RecipeCursor x = field.RecipeCursor x
field_in rule.DueCursor x = field.DueCursor x
field_in rule.HoldCursor x = field.HoldCursor x
field_in rule.MovementCursor x = field.MovementCursor x
field_in rule.BirthCursor x = field.BirthCursor x
field_in rule.Command x = field.Chosen
field_in rule.Question x = field.Chosen
field_in rule.Kind x = field.Chosen
field_in rule.List x = field.List
field_in rule.Object x = field.Object

-- the same of a member that may be left out
abbrev pub May : Bool → MemberRule → Type 0
May true r = Means r
May false r = Option (Means r)

abbrev pub may_in : (needed : Bool) (r : MemberRule) → May needed r → Field
may_in true r x = field_in r x
may_in false r None = field.Absent
may_in false r (Some x) = field_in r x

-- what members say
abbrev pub Values : List Member → Type 0
Values [] = ⊤
Values (which ∷ members) = May (is_needed which) (rule_of which) × Values members

-- the typed values of what members say
abbrev pub fields_in : (members : List Member) → Values members → List Field
fields_in [] v = []
fields_in (which ∷ members) v = may_in (is_needed which) (rule_of which) v.0 ∷ fields_in members v.1
