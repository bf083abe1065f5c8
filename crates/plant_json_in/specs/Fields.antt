-- The typed values of an object's members, or its first flaw. An object has a name once: where a text has it twice, the last one counts.
use Rattle.std.specs.Prelude.{ℕ, List, [], ◌∷◌, Bool, ◌&&◌, ◌||◌, nat_le, if◌then◌else◌, Option, Some, None, option_map, option_and_then, Result, Ok, Err, bytes_eq}
use Rattle.std.specs.List.{list_any}
use Rattle.serde_json.specs.Data.{Data, Members, no_members, member}
use Rattle.serde_json.specs.Find.{get, as_number, as_u64, as_str, as_array, as_object}
use Rattle.plant_base.specs.{digits_of, is_due, only, is_id, is_text, is_unit, is_amount, is_moment}
use Rattle.plant_questions.specs.{cursor_in}
use Rattle.plant_json_in.specs.declared.members.Member.{Member}
use Rattle.plant_json_in.specs.declared.members.MemberRule.{MemberRule}
use Rattle.plant_json_in.specs.declared.members.MemberRule.TheVariants as rule
use Rattle.plant_json_in.specs.declared.fields.Field.{Field}
use Rattle.plant_json_in.specs.declared.fields.Field.TheVariants as field
use Rattle.plant_json_in.specs.declared.format_errors.ShapeError.{ShapeError}
use Rattle.plant_json_in.specs.declared.format_errors.ShapeError.TheVariants as shape_error
use Rattle.plant_json_in.specs.Members.{name_of, rule_of, is_needed}
use Rattle.plant_json_in.specs.Words.{line_kind, batch_word, order_state, recipe_state}
use Rattle.plant_json_in.specs.CommandTables.{command_kind}
use Rattle.plant_json_in.specs.FormatErrors.{◌>>=◌}
use Rattle.plant_json_in.specs.QuestionTables.{asked_kind}

-- ---- values

-- the whole number from 0 to 2^64 - 1, which is written with no sign, fraction or exponent
abbrev pub natural : Data → Option ℕ
natural d = option_and_then as_u64 (as_number d)

abbrev pub is_between : ℕ → ℕ → ℕ → Bool
is_between least greatest n = nat_le least n && nat_le n greatest

-- a word that chooses a shape
abbrev pub chosen : {A : Type 0} → Option A → Option Field
chosen kind = option_map (λ k. field.Chosen) kind

-- the typed value that a text is by a rule, where the rule asks for a text
abbrev pub field_of_text : MemberRule → List ℕ → Option Field
field_of_text rule.Id text = option_map field.Id (only is_id text)
field_of_text rule.Text text = option_map field.Text (only is_text text)
field_of_text rule.Unit text = option_map field.Unit (only is_unit text)
field_of_text rule.Due text = option_map field.Due (only is_due text)
field_of_text rule.Word text = option_map field.Word (batch_word text)
field_of_text rule.OrderState text = option_map field.OrderState (order_state text)
field_of_text rule.RecipeState text = option_map field.RecipeState (recipe_state text)
field_of_text rule.RecipeCursor text = option_map field.RecipeCursor (cursor_in (only is_id) (digits_of 3) text)
field_of_text rule.DueCursor text = option_map field.DueCursor (cursor_in (only is_due) (only is_id) text)
field_of_text rule.HoldCursor text = option_map field.HoldCursor (cursor_in (only is_id) (only is_id) text)
field_of_text rule.MovementCursor text = option_map field.MovementCursor (cursor_in (digits_of 16) (digits_of 3) text)
field_of_text rule.BirthCursor text = option_map field.BirthCursor (cursor_in (digits_of 16) (only is_id) text)
field_of_text rule.Command text = chosen (command_kind text)
field_of_text rule.Question text = chosen (asked_kind text)
field_of_text rule.Kind text = chosen (line_kind text)
field_of_text _ text = None

-- the typed value that a value is by a rule
abbrev pub field_of : MemberRule → Data → Option Field
field_of rule.Amount d = option_map field.Amount (option_and_then (only is_amount) (natural d))
field_of rule.Moment d = option_map field.Moment (option_and_then (only is_moment) (natural d))
field_of (rule.Number least greatest) d = option_map field.Number (option_and_then (only (is_between least greatest)) (natural d))
field_of (rule.Small least greatest) d = option_map field.Small (option_and_then (only (is_between least greatest)) (natural d))
field_of rule.List d = option_map (λ ds. field.List) (as_array d)
field_of rule.Object d = option_map (λ ms. field.Object) (as_object d)
field_of r d = option_and_then (field_of_text r) (as_str d)

-- the typed value that a part of a path is by a rule: numbers in digits, at most 16 of an amount and 3 of another, whatever its range
abbrev pub field_of_digits : MemberRule → List ℕ → Option Field
field_of_digits rule.Amount text = option_map field.Amount (option_and_then (only is_amount) (digits_of 16 text))
field_of_digits (rule.Number least greatest) text = option_map field.Number (digits_of 3 text)
field_of_digits r text = field_of_text r text

-- ---- members

abbrev pub by_rule : Member → Option Field → Result Field ShapeError
by_rule which None = Err (shape_error.Breaks which)
by_rule which (Some f) = Ok f

abbrev pub member_where : Member → Option Data → Result Field ShapeError
member_where which None = if is_needed which then Err (shape_error.Missing which) else Ok field.Absent
member_where which (Some d) = by_rule which (field_of (rule_of which) d)

-- the typed value of a member, or what is wrong with it
abbrev pub member_of : Member → Data → Result Field ShapeError
member_of which d = member_where which (get (name_of which) d)

-- the typed values of the members, or the first thing that is wrong, in their order
abbrev pub fields_of : List Member → Data → Result (List Field) ShapeError
fields_of [] d = Ok []
fields_of (which ∷ members) d = member_of which d >>= (λ f. fields_of members d >>= (λ fs. Ok (f ∷ fs)))

-- ---- other members

-- the name is that of one of the members
abbrev pub is_listed : List Member → List ℕ → Bool
is_listed members name = list_any (λ which. bytes_eq name (name_of which)) members

-- the first name that no listed member has
abbrev pub first_other : List Member → List Member → Members → Option (List ℕ)
first_other some more no_members = None
first_other some more (member name d ms) = if is_listed some name || is_listed more name then first_other some more ms else Some name

-- a name that doesn't belong there is reported where it is a text
abbrev pub other_where : Option (List ℕ) → Result Unit ShapeError
other_where None = Ok tt
other_where (Some name) = Err (shape_error.Other (only is_text name))

-- no member has another name than the listed ones
abbrev pub none_other : List Member → List Member → Data → Result Unit ShapeError
none_other some more d = other_where (option_and_then (first_other some more) (as_object d))

-- the typed values of an object that has these members and no other
abbrev pub exactly : List Member → Data → Result (List Field) ShapeError
exactly members d = fields_of members d >>= (λ fs. none_other members [] d >>= (λ u. Ok fs))

-- ---- paths

-- the typed value of a member by the part of a path that is its, where it has one
abbrev pub field_of_part : Member → Option (List ℕ) → Option Field
field_of_part which None = if is_needed which then None else Some field.Absent
field_of_part which (Some text) = field_of_digits (rule_of which) text
