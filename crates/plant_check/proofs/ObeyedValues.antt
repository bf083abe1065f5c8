-- A value that is read obeys the rule of its column.
use Rattle.std.proofs.Common.{◌≡◌, refl, sym, subst, ℕ, List, [], ◌∷◌, length, ◌&&◌, true, false, Option, Some, None, nat_le, arith}
use Rattle.std.proofs.lemmas.Bool.{and_parts}
use Rattle.std.proofs.lemmas.Bool.Decides.{nat_tests}
use Rattle.std.specs.List.{list_all}
use Rattle.sqlite.specs.declared.types.Value.{Value}
use Rattle.sqlite.specs.declared.types.Value.TheVariants.{Text}
use Rattle.plant_base.specs.{is_id, is_text, is_id_byte, is_text_byte, begins_with_letter, is_amount, greatest_amount, greatest_moment, greatest_sublot, batch_state_name}
use Rattle.plant_base.specs.declared.rows.EdgeKind.TheVariants as edge_kind
use Rattle.plant_base.specs.declared.rows.MarkKind.TheVariants as mark_kind
use Rattle.plant_base.specs.declared.states.RecipeState.TheVariants as recipe_state
use Rattle.plant_base.specs.declared.states.JobState.TheVariants as job_state
use Rattle.plant_base.specs.declared.states.BatchState.TheVariants as batch_state
use Rattle.plant_tables_columns.specs.declared.booked.MovementKindCode.TheVariants as kind_code
use Rattle.plant_tables_columns.specs.declared.recalls.RecallState.TheVariants as recall_state
use Rattle.plant_tables_columns.specs.{Kind, null_or, number, ids, texts, units, dues, contents, numbers, line_numbers, flags, recipe_states, job_states, batch_states, recall_states, movement_kind_codes, edge_kinds, mark_kinds, ids_or_none, sublot_numbers_or_none, moments_or_none, texts_or_none, all_batch_states, all_recall_states, all_movement_kind_codes, batch_state_from, recall_state_from, recall_state_name, movement_kind_from, movement_kind_number, content_from, content_in, integer_in, is_in, line_number, line_number_from, text_in}
use Rattle.plant_tables_columns.proofs.KindLaws.{IsKind, Any, ValidOrNone, integer_is, text_is, id_kind, text_like, unit_kind, due_kind, number_kind, flag_kind, optional_id_kind, optional_sublot_kind, optional_moment_kind, optional_text_kind}
use Rattle.plant_tables_columns.proofs.OptionalValues.{bound}
use Rattle.plant_tables_columns.proofs.TableLaws.{recipe_state_kind, job_state_kind, edge_kind_kind, mark_kind_kind}
use Rattle.plant_tables_columns.proofs.WordsAndNumbers.{named_kind, numbered_kind, batch_state_own, recall_state_own, movement_kind_own}
use Rattle.plant_check.specs.{allows_null, obeys, ValueRule}
use Rattle.plant_requirements.specs.declared.value_rule.ValueRule.TheVariants as rule

-- a value of the kind that is read obeys the rule
pub record IsObeyed {A : Type 0} (kind : Kind A) (r : ValueRule) : Type 0 where
  pub obeyed : (v : Value) (a : A) → kind.read v ≡ Some a → obeys r v ≡ true

by_kind : {A : Type 0} {kind : Kind A} {valid : A → Type 0} (r : ValueRule) → IsKind kind valid Any
    → ((a : A) → valid a → obeys r (kind.stored a) ≡ true) → IsObeyed kind r
by_kind r laws is = record { obeyed = λ v a h. subst (λ w. obeys r w ≡ true) (sym (laws.back v a h tt)) (is a (laws.keeps v a h)) }

-- of a value that may be left out: where it isn't, and where it is
or_null : {A : Type 0} (valid : A → Type 0) (stored : A → Value) (r : ValueRule) → allows_null r ≡ true → ((a : A) → valid a → obeys r (stored a) ≡ true)
    → (o : Option A) → ValidOrNone valid o → obeys r (null_or stored o) ≡ true
or_null valid stored r null each None h = null
or_null valid stored r null each (Some a) h = each a h

-- ---- texts

pub id_obeyed : IsObeyed ids rule.Id
id_obeyed = by_kind rule.Id id_kind (λ a h. h)

pub text_obeyed : IsObeyed texts rule.Text
text_obeyed = by_kind rule.Text text_like (λ a h. h)

pub unit_obeyed : IsObeyed units rule.Unit
unit_obeyed = by_kind rule.Unit unit_kind (λ a h. h)

pub due_obeyed : IsObeyed dues rule.Due
due_obeyed = by_kind rule.Due due_kind (λ a h. h)

pub content_obeyed : IsObeyed contents rule.AnyText
unfolding content_from
content_obeyed = record { obeyed = λ v a h. let p = bound (text_in v) (λ bytes. Some (content_in bytes)) a h in rw (text_is v p.0 p.1) refl }

pub id_or_null_obeyed : IsObeyed ids_or_none rule.IdOrNull
id_or_null_obeyed = by_kind rule.IdOrNull optional_id_kind (or_null (λ a. is_id a ≡ true) Text rule.IdOrNull refl (λ a h. h))

pub text_or_null_obeyed : IsObeyed texts_or_none rule.TextOrNull
text_or_null_obeyed = by_kind rule.TextOrNull optional_text_kind (or_null (λ a. is_text a ≡ true) Text rule.TextOrNull refl (λ a h. h))

-- ---- numbers

pub number_obeyed : (low high : ℕ) → IsObeyed (numbers low high) (rule.Number low high)
number_obeyed low high = by_kind (rule.Number low high) (number_kind low high) (λ n h. h)

pub line_number_obeyed : IsObeyed line_numbers rule.Whole
unfolding line_number_from
line_number_obeyed = record { obeyed = λ v a h. let p = bound (integer_in v) (λ n. Some (line_number n)) a h in rw (integer_is v p.0 p.1) refl }

-- every number is at least 0
pub up_to : (high n : ℕ) → nat_le n high ≡ true → is_in 0 high n ≡ true
up_to high n h =
    let least : nat_le 0 n ≡ true = grind (arith, nat_tests) in
    rw (least, h) refl

pub amount_is_quantity : (n : ℕ) → is_amount n ≡ true → is_in 0 greatest_amount n ≡ true
amount_is_quantity n h = up_to greatest_amount n (and_parts (nat_le 1 n) (nat_le n greatest_amount) h).1

up_to_or_null : (high : ℕ) (o : Option ℕ) → ValidOrNone (λ n. nat_le n high ≡ true) o → obeys (rule.NumberOrNull 0 high) (null_or number o) ≡ true
up_to_or_null high = or_null (λ n. nat_le n high ≡ true) number (rule.NumberOrNull 0 high) refl (up_to high)

pub sublot_or_null_obeyed : IsObeyed sublot_numbers_or_none (rule.NumberOrNull 0 greatest_sublot)
sublot_or_null_obeyed = by_kind (rule.NumberOrNull 0 greatest_sublot) optional_sublot_kind (up_to_or_null greatest_sublot)

pub moment_or_null_obeyed : IsObeyed moments_or_none (rule.NumberOrNull 0 greatest_moment)
moment_or_null_obeyed = by_kind (rule.NumberOrNull 0 greatest_moment) optional_moment_kind (up_to_or_null greatest_moment)

pub flag_obeyed : IsObeyed flags (rule.Number 0 1)
flag_obeyed = by_kind (rule.Number 0 1) flag_kind (λ b h. elim b as (λ b. obeys (rule.Number 0 1) (flags.stored b) ≡ true) [ true ↦ refl | false ↦ refl ])

-- ---- states and kinds

pub recipe_state_obeyed : IsObeyed recipe_states rule.RecipeState
recipe_state_obeyed = by_kind rule.RecipeState recipe_state_kind (λ s h. elim s as (λ s. obeys rule.RecipeState (recipe_states.stored s) ≡ true) [ recipe_state.Draft ↦ refl | _ ↦ refl ])

pub job_state_obeyed : IsObeyed job_states rule.JobState
job_state_obeyed = by_kind rule.JobState job_state_kind (λ s h. elim s as (λ s. obeys rule.JobState (job_states.stored s) ≡ true) [ job_state.Open ↦ refl | _ ↦ refl ])

pub batch_state_obeyed : IsObeyed batch_states rule.BatchState
unfolding batch_state_from
batch_state_obeyed = by_kind rule.BatchState (named_kind batch_state_name all_batch_states batch_state_own)
    (λ s h. elim s as (λ s. obeys rule.BatchState (batch_states.stored s) ≡ true) [ batch_state.Idle ↦ refl | _ ↦ refl ])

pub recall_state_obeyed : IsObeyed recall_states rule.RecallState
unfolding recall_state_from
recall_state_obeyed = by_kind rule.RecallState (named_kind recall_state_name all_recall_states recall_state_own)
    (λ s h. elim s as (λ s. obeys rule.RecallState (recall_states.stored s) ≡ true) [ recall_state.Open ↦ refl | _ ↦ refl ])

pub movement_kind_obeyed : IsObeyed movement_kind_codes (rule.Number 1 7)
unfolding movement_kind_from
movement_kind_obeyed = by_kind (rule.Number 1 7) (numbered_kind movement_kind_number all_movement_kind_codes movement_kind_own)
    (λ k h. elim k as (λ k. obeys (rule.Number 1 7) (movement_kind_codes.stored k) ≡ true) [ kind_code.Received ↦ refl | _ ↦ refl ])

pub edge_kind_obeyed : IsObeyed edge_kinds (rule.Number 1 3)
edge_kind_obeyed = by_kind (rule.Number 1 3) edge_kind_kind (λ k h. elim k as (λ k. obeys (rule.Number 1 3) (edge_kinds.stored k) ≡ true) [ edge_kind.LotToBatch ↦ refl | _ ↦ refl ])

pub mark_kind_obeyed : IsObeyed mark_kinds (rule.Number 1 2)
mark_kind_obeyed = by_kind (rule.Number 1 2) mark_kind_kind (λ k h. elim k as (λ k. obeys (rule.Number 1 2) (mark_kinds.stored k) ≡ true) [ mark_kind.Lot ↦ refl | _ ↦ refl ])

-- ---- ids as texts

id_byte_is_readable : (b : ℕ) → is_id_byte b ≡ true → is_text_byte b ≡ true
id_byte_is_readable b h = grind (arith, nat_tests)

id_bytes_are_readable : (bs : List ℕ) → list_all is_id_byte bs ≡ true → list_all is_text_byte bs ≡ true
id_bytes_are_readable [] h = refl
id_bytes_are_readable (b ∷ bs) h =
    let parts = and_parts (is_id_byte b) (list_all is_id_byte bs) h in
    let first = id_byte_is_readable b parts.0 in
    let rest = id_bytes_are_readable bs parts.1 in
    rw (first, rest) refl

pub id_is_text : (bs : List ℕ) → is_id bs ≡ true → is_text bs ≡ true
id_is_text bs h =
    let all = and_parts (nat_le (length bs) 24 && begins_with_letter bs) (list_all is_id_byte bs) h in
    let short : nat_le (length bs) 24 ≡ true = (and_parts (nat_le (length bs) 24) (begins_with_letter bs) all.0).0 in
    let few : nat_le (length bs) 60 ≡ true = grind (arith, nat_tests) in
    rw (few, id_bytes_are_readable bs all.1) refl
