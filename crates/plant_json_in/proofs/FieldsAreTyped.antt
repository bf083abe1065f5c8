-- What was read of members has the types of their rules, and else the flaw says what is wrong.
use Rattle.std.proofs.Common.{◌≡◌, ℕ, List, [], ◌∷◌, Bool, true, false, cond, Option, Some, None, Result, Ok, Err, option_map, option_and_then, refl, IfOk, IfErr}
use Rattle.std.specs.Prelude.{⊤}
use Rattle.serde_json.specs.Data.{Data}
use Rattle.serde_json.specs.Find.{get, as_str, as_array, as_object}
use Rattle.plant_base.specs.{digits_of, is_due, only, is_id, is_text, is_unit, is_amount, is_moment}
use Rattle.plant_json_in.specs.declared.members.Member.{Member}
use Rattle.plant_json_in.specs.declared.members.Member.TheVariants as m
use Rattle.plant_json_in.specs.declared.members.MemberRule.{MemberRule}
use Rattle.plant_json_in.specs.declared.members.MemberRule.TheVariants as rule
use Rattle.plant_json_in.specs.declared.fields.Field.{Field}
use Rattle.plant_json_in.specs.declared.fields.Field.TheVariants as field
use Rattle.plant_json_in.specs.declared.format_errors.ShapeError.{ShapeError}
use Rattle.plant_json_in.specs.declared.format_errors.ShapeError.TheVariants as shape_error
use Rattle.plant_json_in.specs.{name_of, rule_of, is_needed, command_kind, asked_kind, line_kind, batch_word, order_state, recipe_state, ◌>>=◌, object, is_reported, format_error_is_reported, natural, is_between, chosen, field_of, field_of_text, by_rule, member_where, member_of, fields_of, first_other, other_where, none_other, exactly, Means, field_in, May, may_in, Values, fields_in}
use Rattle.plant_questions.specs.{cursor_in}

-- what was read is such, or else the error says what is wrong
abbrev pub Good : {A E : Type 0} → (E → Bool) → (A → Type 0) → Result A E → Type 0
Good reported P (Ok x) = P x
Good reported P (Err e) = reported e ≡ true

abbrev pub OnSome : {A : Type 0} → (A → Type 0) → Option A → Type 0
OnSome P None = ⊤
OnSome P (Some x) = P x

pub valid_bind : {A B E : Type 0} (reported : E → Bool) (P : B → Type 0) (r : Result A E) (g : A → Result B E) → Good reported (λ a. Good reported P (g a)) r → Good reported P (r >>= g)
valid_bind reported P (Ok a) g h = h
valid_bind reported P (Err e) g h = h

pub valid_map : {A E : Type 0} (reported : E → Bool) (P Q : A → Type 0) (r : Result A E) → ((a : A) → P a → Q a) → Good reported P r → Good reported Q r
valid_map reported P Q (Ok a) k h = k a h
valid_map reported P Q (Err e) k h = h

pub good_object : {A : Type 0} (P : A → Type 0) (r : Result A ShapeError) → Good is_reported P r → Good format_error_is_reported P (object r)
good_object P (Ok a) h = h
good_object P (Err f) h = h

map_some : {A B : Type 0} (f : A → B) (o : Option A) (Q : B → Type 0) → ((x : A) → Q (f x)) → OnSome Q (option_map f o)
map_some f None Q k = tt
map_some f (Some x) Q k = k x

-- ---- members

-- a text that is read by a rule has the rule's type
text_typed : (r : MemberRule) (text : List ℕ) (Q : Field → Type 0) → ((x : Means r) → Q (field_in r x)) → OnSome Q (field_of_text r text)
text_typed rule.Id text Q k = map_some field.Id (only is_id text) Q k
text_typed rule.Text text Q k = map_some field.Text (only is_text text) Q k
text_typed rule.Unit text Q k = map_some field.Unit (only is_unit text) Q k
text_typed rule.Due text Q k = map_some field.Due (only is_due text) Q k
text_typed rule.Word text Q k = map_some field.Word (batch_word text) Q k
text_typed rule.OrderState text Q k = map_some field.OrderState (order_state text) Q k
text_typed rule.RecipeState text Q k = map_some field.RecipeState (recipe_state text) Q k
text_typed rule.RecipeCursor text Q k = map_some field.RecipeCursor (cursor_in (only is_id) (digits_of 3) text) Q k
text_typed rule.DueCursor text Q k = map_some field.DueCursor (cursor_in (only is_due) (only is_id) text) Q k
text_typed rule.HoldCursor text Q k = map_some field.HoldCursor (cursor_in (only is_id) (only is_id) text) Q k
text_typed rule.MovementCursor text Q k = map_some field.MovementCursor (cursor_in (digits_of 16) (digits_of 3) text) Q k
text_typed rule.BirthCursor text Q k = map_some field.BirthCursor (cursor_in (digits_of 16) (only is_id) text) Q k
text_typed rule.Command text Q k = map_some (λ w. field.Chosen) (command_kind text) Q (λ w. k tt)
text_typed rule.Question text Q k = map_some (λ w. field.Chosen) (asked_kind text) Q (λ w. k tt)
text_typed rule.Kind text Q k = map_some (λ w. field.Chosen) (line_kind text) Q (λ w. k tt)
text_typed _ text Q k = tt

of_text : (r : MemberRule) (o : Option (List ℕ)) (Q : Field → Type 0) → ((x : Means r) → Q (field_in r x)) → OnSome Q (option_and_then (field_of_text r) o)
of_text r None Q k = tt
of_text r (Some text) Q k = text_typed r text Q k

-- a value that is read by a rule has the rule's type
field_typed : (r : MemberRule) (d : Data) (Q : Field → Type 0) → ((x : Means r) → Q (field_in r x)) → OnSome Q (field_of r d)
field_typed rule.Amount d Q k = map_some field.Amount (option_and_then (only is_amount) (natural d)) Q k
field_typed rule.Moment d Q k = map_some field.Moment (option_and_then (only is_moment) (natural d)) Q k
field_typed (rule.Number a b) d Q k = map_some field.Number (option_and_then (only (is_between a b)) (natural d)) Q k
field_typed (rule.Small a b) d Q k = map_some field.Small (option_and_then (only (is_between a b)) (natural d)) Q k
field_typed rule.List d Q k = map_some (λ w. field.List) (as_array d) Q (λ w. k tt)
field_typed rule.Object d Q k = map_some (λ w. field.Object) (as_object d) Q (λ w. k tt)
field_typed rule.Id d Q k = of_text rule.Id (as_str d) Q k
field_typed rule.Text d Q k = of_text rule.Text (as_str d) Q k
field_typed rule.Unit d Q k = of_text rule.Unit (as_str d) Q k
field_typed rule.Due d Q k = of_text rule.Due (as_str d) Q k
field_typed rule.Word d Q k = of_text rule.Word (as_str d) Q k
field_typed rule.OrderState d Q k = of_text rule.OrderState (as_str d) Q k
field_typed rule.RecipeState d Q k = of_text rule.RecipeState (as_str d) Q k
field_typed rule.RecipeCursor d Q k = of_text rule.RecipeCursor (as_str d) Q k
field_typed rule.DueCursor d Q k = of_text rule.DueCursor (as_str d) Q k
field_typed rule.HoldCursor d Q k = of_text rule.HoldCursor (as_str d) Q k
field_typed rule.MovementCursor d Q k = of_text rule.MovementCursor (as_str d) Q k
field_typed rule.BirthCursor d Q k = of_text rule.BirthCursor (as_str d) Q k
field_typed rule.Command d Q k = of_text rule.Command (as_str d) Q k
field_typed rule.Question d Q k = of_text rule.Question (as_str d) Q k
field_typed rule.Kind d Q k = of_text rule.Kind (as_str d) Q k

by_rule-valid : (which : Member) (o : Option Field) (Q : Field → Type 0) → OnSome Q o → Good is_reported Q (by_rule which o)
by_rule-valid which None Q h = refl
by_rule-valid which (Some f) Q h = h

where_typed : (b : Bool) (r : MemberRule) (which : Member) (o : Option Field) (Q : Field → Type 0) → ((x : May b r) → Q (may_in b r x)) → ((Q : Field → Type 0) → ((x : Means r) → Q (field_in r x)) → OnSome Q o) → Good is_reported Q (by_rule which o)
where_typed true r which o Q k typed = by_rule-valid which o Q (typed Q k)
where_typed false r which o Q k typed = by_rule-valid which o Q (typed Q (λ x. k (Some x)))

left_out : (b : Bool) (r : MemberRule) (which : Member) (Q : Field → Type 0) → ((x : May b r) → Q (may_in b r x)) → Good is_reported Q (cond b (Err (shape_error.Missing which)) (Ok field.Absent))
left_out true r which Q k = refl
left_out false r which Q k = k None

member_by : (which : Member) (o : Option Data) (Q : Field → Type 0) → ((x : May (is_needed which) (rule_of which)) → Q (may_in (is_needed which) (rule_of which) x)) → Good is_reported Q (member_where which o)
member_by which None Q k = left_out (is_needed which) (rule_of which) which Q k
member_by which (Some v) Q k = where_typed (is_needed which) (rule_of which) which (field_of (rule_of which) v) Q k (λ Q k. field_typed (rule_of which) v Q k)

-- the values of members have the types of their rules, whatever the members
pub fields_typed : (ms : List Member) (d : Data) (P : List Field → Type 0) → ((v : Values ms) → P (fields_in ms v)) → Good is_reported P (fields_of ms d)
fields_typed [] d P k = k tt
fields_typed (which ∷ ms) d P k =
    valid_bind is_reported P (member_of which d) _ (member_by which (get (name_of which) d) _ (λ x. valid_bind is_reported P (fields_of ms d) _
    (fields_typed ms d (λ fs. P (may_in (is_needed which) (rule_of which) x ∷ fs)) (λ v. k (x, v)))))

other_valid : (o : Option (List ℕ)) → Good is_reported (λ u. ⊤) (other_where o)
other_valid None = tt
other_valid (Some name) = refl

pub none_other-valid : (some more : List Member) (d : Data) → Good is_reported (λ u. ⊤) (none_other some more d)
none_other-valid some more d = other_valid (option_and_then (first_other some more) (as_object d))

pub exactly_typed : (ms : List Member) (d : Data) (P : List Field → Type 0) → ((v : Values ms) → P (fields_in ms v)) → Good is_reported P (exactly ms d)
exactly_typed ms d P k =
    valid_bind is_reported P (fields_of ms d) _ (fields_typed ms d _ (λ v. valid_bind is_reported P (none_other ms [] d) _ (valid_map is_reported (λ u. ⊤) _ (none_other ms [] d) (λ u z. k v) (none_other-valid ms [] d))))

-- ---- the clauses of readings

pub typed_ok : (ms : List Member) (r : Result (List Field) ShapeError) → Good is_reported (λ fs. (v : Values ms) × (fs ≡ fields_in ms v)) r → IfOk r (λ fs. (v : Values ms) × (fs ≡ fields_in ms v))
typed_ok ms (Ok fs) h = h
typed_ok ms (Err f) h = tt

pub reported_err : (ms : List Member) (r : Result (List Field) ShapeError) → Good is_reported (λ fs. (v : Values ms) × (fs ≡ fields_in ms v)) r → IfErr r (λ f. is_reported f ≡ true)
reported_err ms (Ok fs) h = tt
reported_err ms (Err f) h = h

pub fields_valid : (ms : List Member) (d : Data) → Good is_reported (λ fs. (v : Values ms) × (fs ≡ fields_in ms v)) (fields_of ms d)
fields_valid ms d = fields_typed ms d (λ fs. (v : Values ms) × (fs ≡ fields_in ms v)) (λ v. (v, refl))

-- ---- words that choose no shape

-- where one of the members can't be read, the list can't
pub later_fails : (which : Member) (ms : List Member) (d : Data) → Good is_reported (λ fs. ⊥) (fields_of ms d) → Good is_reported (λ fs. ⊥) (fields_of (which ∷ ms) d)
later_fails which ms d h =
    valid_bind is_reported (λ fs. ⊥) (member_of which d) _ (member_by which (get (name_of which) d) _ (λ x. valid_bind is_reported (λ fs. ⊥) (fields_of ms d) _ (valid_map is_reported (λ fs. ⊥) _ (fields_of ms d) (λ fs z. absurd z) h)))

pub only_fails : (which : Member) (d : Data) → Good is_reported (λ f. ⊥) (member_where which (get (name_of which) d)) → Good is_reported (λ fs. ⊥) (fields_of (which ∷ []) d)
only_fails which d h = valid_bind is_reported (λ fs. ⊥) (member_of which d) _ (valid_map is_reported (λ f. ⊥) _ (member_of which d) (λ f z. absurd z) h)

text_fails : {A : Type 0} (r : MemberRule) (which : Member) (kind : List ℕ → Option A) → ((text : List ℕ) → field_of_text r text ≡ chosen (kind text)) → (o : Option (List ℕ)) → option_and_then kind o ≡ None → Good is_reported (λ f. ⊥) (by_rule which (option_and_then (field_of_text r) o))
text_fails r which kind same None e = refl
text_fails r which kind same (Some text) e = rw (same text, e) refl

pub do_fails : (o : Option Data) → option_and_then command_kind (option_and_then as_str o) ≡ None → Good is_reported (λ f. ⊥) (member_where m.Do o)
do_fails None e = refl
do_fails (Some v) e = text_fails rule.Command m.Do command_kind (λ text. refl) (as_str v) e

pub ask_fails : (o : Option Data) → option_and_then asked_kind (option_and_then as_str o) ≡ None → Good is_reported (λ f. ⊥) (member_where m.Ask o)
ask_fails None e = refl
ask_fails (Some v) e = text_fails rule.Question m.Ask asked_kind (λ text. refl) (as_str v) e

pub kind_fails : (o : Option Data) → option_and_then line_kind (option_and_then as_str o) ≡ None → Good is_reported (λ f. ⊥) (member_where m.Kind o)
kind_fails None e = refl
kind_fails (Some v) e = text_fails rule.Kind m.Kind line_kind (λ text. refl) (as_str v) e
