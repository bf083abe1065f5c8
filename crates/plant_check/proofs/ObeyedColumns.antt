-- No row is read of which a value breaks the rule of its column.
use Rattle.std.proofs.Common.{◌≡◌, refl, sym, ◌∙◌, subst, ℕ, suc, ◌+◌, List, [], ◌∷◌, ◌++◌, length, take, drop, Bool, true, false, ◌&&◌, ◌==◌, Option, Some, None, nat_le, arith, if◌then◌else◌, is_some, length-append}
use Rattle.std.proofs.lemmas.Bool.{and_parts}
use Rattle.sqlite.specs.Order.{Row, column}
use Rattle.plant_base.specs.{greatest_amount, greatest_moment, greatest_phase, greatest_priority, greatest_seq, greatest_sublot, greatest_version, HasLineValues, HasPhaseNumber, Event, RecipeLine, Word, word_name}
use Rattle.plant_base.specs.declared.rows.RecipeLine.TheVariants as line
use Rattle.plant_base.specs.declared.states.Event.TheVariants as event
use Rattle.plant_base.specs.declared.states.Word.TheVariants as word
use Rattle.plant_recipe.specs.{greatest_attempt}
use Rattle.plant_tables_columns.specs.{Kind, one, ◌⊗◌, made, read_row, columns_of_line, line_columns, event_columns, class_columns, definition_columns, header_columns, recipe_columns, master_line_columns, control_line_columns, order_columns, job_columns, released_columns, batch_columns, batch_event_columns, lot_columns, sublot_columns, booked_columns, hold_columns, edge_columns, receipt_columns, stated_columns, mark_columns, class_from, definition_from, recipe_from, master_line_from, control_line_from, job_from, batch_from, batch_event_from, lot_from, sublot_from, booked_from, hold_from, edge_from, receipt_from, stated_from, mark_from}
use Rattle.plant_tables_columns.specs.Columns.{Columns}
use Rattle.plant_tables_columns.proofs.ColumnLaws.{StoredFrom}
use Rattle.plant_tables_columns.proofs.LineLaws.{line_lawful}
use Rattle.plant_tables_columns.proofs.OptionalValues.{bound, mapped, where_true}
use Rattle.plant_tables_columns.proofs.TableLaws.{event_lawful}
use Rattle.plant_check.specs.{rules_of, obeys, allows_text, bad_value, first_bad_value, AreUnreadIfBad, Column, ValueRule}
use Rattle.plant_requirements.specs.declared.table_names.Table.TheVariants as table
use Rattle.plant_requirements.specs.declared.value_rule.ValueRule.TheVariants as rule
use Rattle.plant_check.specs.declared.values.BadValue.{BadValue}
use Rattle.plant_check.proofs.ObeyedValues.{IsObeyed, id_obeyed, text_obeyed, unit_obeyed, due_obeyed, content_obeyed, id_or_null_obeyed, text_or_null_obeyed, number_obeyed, line_number_obeyed, amount_is_quantity, up_to, sublot_or_null_obeyed, moment_or_null_obeyed, flag_obeyed, recipe_state_obeyed, job_state_obeyed, batch_state_obeyed, recall_state_obeyed, movement_kind_obeyed, edge_kind_obeyed, mark_kind_obeyed, id_is_text}

abbrev Rules : Type 0
Rules = List (Column × ValueRule)

-- ---- columns side by side

-- what is read of the columns obeys their rules
record AreObeyed {A : Type 0} (c : Columns A) (rules : Rules) : Type 0 where
  pub wide : length rules ≡ length c.declared
  pub obeyed : (row : Row) (at : ℕ) (a : A) → c.read row at ≡ Some a → first_bad_value rules at row ≡ None

joined : (rs ss : Rules) (at : ℕ) (row : Row) → first_bad_value rs at row ≡ None → first_bad_value ss (at + length rs) row ≡ None → first_bad_value (rs ++ ss) at row ≡ None
joined [] ss at row h k = let same : at + 0 ≡ at = omega arith in subst (λ n. first_bad_value ss n row ≡ None) same k
joined (r ∷ rs) ss at row h k =
    let next : at + suc (length rs) ≡ (at + 1) + length rs = omega arith in
    let rest = subst (λ n. first_bad_value ss n row ≡ None) next k in
    elim (obeys r.1 (column row at)) as (λ b. (if b then first_bad_value rs (at + 1) row else Some (bad_value r row at)) ≡ None
    → (if b then first_bad_value (rs ++ ss) (at + 1) row else Some (bad_value r row at)) ≡ None) [
      | true ↦ λ e. joined rs ss (at + 1) row e rest
      | false ↦ λ e. absurd (cc)
    ] h

single : {A : Type 0} {name : List ℕ} {kind : Kind A} {c : Column} {r : ValueRule} → IsObeyed kind r → AreObeyed (one name kind) ((c, r) ∷ [])
single is = record { wide = refl; obeyed = λ row at a h. rw (is.obeyed (column row at) a h) refl }

infixr 11 ◌⊞◌
◌⊞◌ : {A B : Type 0} {a : Columns A} {b : Columns B} {rs ss : Rules} → AreObeyed a rs → AreObeyed b ss → AreObeyed (a ⊗ b) (rs ++ ss)
◌⊞◌ {A} {B} {a} {b} {rs} {ss} left right = record {
  wide = length-append rs ss ∙ (λ i. left.wide i + right.wide i) ∙ sym (length-append a.declared b.declared);
  obeyed = λ row at p h.
      let x = bound (a.read row at) _ p h in
      let y = bound (b.read row (at + length a.declared)) _ p x.2 in
      joined rs ss at row (left.obeyed row at x.0 x.1)
      (subst (λ n. first_bad_value ss (at + n) row ≡ None) (sym left.wide) (right.obeyed row (at + length a.declared) y.0 y.1));
}

same_for : {A B : Type 0} {c : Columns A} {rules : Rules} (make : A → B) (parts : B → A) → AreObeyed c rules → AreObeyed (made make parts c) rules
same_for {A} {B} {c} {rules} make parts laws = record {
  wide = laws.wide;
  obeyed = λ row at b h. let p = mapped make (c.read row at) b h in laws.obeyed row at p.0 p.1;
}

-- ---- columns that say something together

abbrev all_obey : Rules → Row → Bool
all_obey [] vs = true
all_obey (r ∷ rs) [] = false
all_obey (r ∷ rs) (v ∷ vs) = obeys r.1 v && all_obey rs vs

stored_obey : (rules : Rules) (vs row : Row) (at : ℕ) → StoredFrom row at vs → all_obey rules vs ≡ true → first_bad_value rules at row ≡ None
stored_obey [] vs row at s h = refl
stored_obey (r ∷ rs) [] row at s h = absurd (cc)
stored_obey (r ∷ rs) (v ∷ vs) row at s h =
    let parts = and_parts (obeys r.1 v) (all_obey rs vs) h in
    let here : obeys r.1 (column row at) ≡ true = subst (λ w. obeys r.1 w ≡ true) (sym s.0) parts.0 in
    let next : suc at ≡ at + 1 = omega arith in
    let rest = subst (λ n. first_bad_value rs n row ≡ None) next (stored_obey rs vs row (suc at) s.1 parts.1) in
    rw (here, rest) refl

abbrev line_rules : Rules
line_rules = drop 3 (rules_of table.RecipeLine)

line_obeys : (l : RecipeLine) → HasLineValues l → all_obey line_rules (columns_of_line l) ≡ true
line_obeys (line.In def amount) h = rw (h.0, amount_is_quantity amount h.1) refl
line_obeys (line.Out def amount) h = rw (h.0, amount_is_quantity amount h.1) refl
line_obeys (line.Parameter name value) h = rw (h.0, h.1) refl
line_obeys (line.Phase unit_procedure operation phase) h = rw (h.0, id_is_text operation h.1, h.2) refl

line_obeyed : AreObeyed line_columns line_rules
line_obeyed = record {
  wide = refl;
  obeyed = λ row at l h. stored_obey line_rules (columns_of_line l) row at (line_lawful.back row at l h tt) (line_obeys l (line_lawful.keeps row at l h));
}

abbrev event_rules : Rules
event_rules = take 2 (drop 2 (rules_of table.BatchEvent))

word_obeys : (w : Word) → allows_text rule.EventWord (word_name w) ≡ true
word_obeys word.Start = refl
word_obeys _ = refl

event_obeys : (e : Event) → HasPhaseNumber e → all_obey event_rules (event_columns.stored e) ≡ true
event_obeys (event.Moved w) h = rw (word_obeys w) refl
event_obeys (event.PhaseDone phase) h = rw (up_to greatest_phase phase (and_parts (nat_le 1 phase) (nat_le phase greatest_phase) h).1) refl
event_obeys event.Closed h = refl

event_obeyed : AreObeyed event_columns event_rules
event_obeyed = record {
  wide = refl;
  obeyed = λ row at e h. stored_obey event_rules (event_columns.stored e) row at (event_lawful.back row at e h tt) (event_obeys e (event_lawful.keeps row at e h));
}

-- ---- tables

header_obeyed : AreObeyed header_columns (take 7 (rules_of table.Recipe))
header_obeyed = same_for _ _ (single id_obeyed ⊞ single (number_obeyed 1 greatest_version) ⊞ single id_obeyed ⊞ single (number_obeyed 1 greatest_amount) ⊞ single (number_obeyed 1 greatest_amount) ⊞ single (number_obeyed 1 greatest_amount) ⊞ single text_obeyed)

order_obeyed : AreObeyed order_columns (take 6 (rules_of table.Job))
order_obeyed = same_for _ _ (single id_obeyed ⊞ single id_obeyed ⊞ single (number_obeyed 1 greatest_version) ⊞ single (number_obeyed 1 greatest_amount) ⊞ single due_obeyed ⊞ single (number_obeyed 1 greatest_priority))

released_obeyed : AreObeyed released_columns (take 5 (rules_of table.Batch))
released_obeyed = same_for _ _ (single id_obeyed ⊞ single id_obeyed ⊞ single (number_obeyed 0 greatest_moment) ⊞ single text_obeyed ⊞ single text_obeyed)

unread : {A : Type 0} (c : Columns A) (rules : Rules) → AreObeyed c rules → (row : Row) (bad : BadValue) → first_bad_value rules 0 row ≡ Some bad → is_some (read_row c row) ≡ false
unread {A} c rules laws row bad h = go (read_row c row) refl
  where
    go : (o : Option A) → read_row c row ≡ o → is_some o ≡ false
    go None e = refl
    go (Some a) e =
        let p = where_true (length row == length c.declared) (c.read row 0) a e in
        absurd (let both = sym h ∙ laws.obeyed row 0 a p.1 in cc)

pub all_unread : AreUnreadIfBad
unfolding class_from definition_from recipe_from master_line_from job_from batch_from control_line_from batch_event_from lot_from sublot_from booked_from hold_from edge_from receipt_from stated_from mark_from
all_unread table.Class = unread class_columns (rules_of table.Class) (same_for _ _ (single id_obeyed ⊞ single text_obeyed))
all_unread table.Definition = unread definition_columns (rules_of table.Definition) (same_for _ _ (single id_obeyed ⊞ single id_obeyed ⊞ single text_obeyed ⊞ single unit_obeyed))
all_unread table.Recipe = unread recipe_columns (rules_of table.Recipe) (same_for _ _ (header_obeyed ⊞ single recipe_state_obeyed))
all_unread table.RecipeLine = unread master_line_columns (rules_of table.RecipeLine) (same_for _ _ (single id_obeyed ⊞ single (number_obeyed 1 greatest_version) ⊞ single line_number_obeyed ⊞ line_obeyed))
all_unread table.Job = unread job_columns (rules_of table.Job) (same_for _ _ (order_obeyed ⊞ single job_state_obeyed))
all_unread table.Batch = unread batch_columns (rules_of table.Batch) (same_for _ _ (released_obeyed ⊞ single batch_state_obeyed ⊞ single (number_obeyed 1 greatest_attempt) ⊞ single (number_obeyed 1 greatest_phase) ⊞ single flag_obeyed))
all_unread table.ControlLine = unread control_line_columns (rules_of table.ControlLine) (same_for _ _ (single id_obeyed ⊞ single line_number_obeyed ⊞ line_obeyed))
all_unread table.BatchEvent = unread batch_event_columns (rules_of table.BatchEvent) (same_for _ _ (single (number_obeyed 0 greatest_seq) ⊞ single id_obeyed ⊞ event_obeyed ⊞ single (number_obeyed 0 greatest_moment) ⊞ single text_obeyed ⊞ single text_obeyed))
all_unread table.Lot = unread lot_columns (rules_of table.Lot) (same_for _ _ (single id_obeyed ⊞ single id_obeyed))
all_unread table.Sublot = unread sublot_columns (rules_of table.Sublot) (same_for _ _ (single id_obeyed ⊞ single (number_obeyed 0 greatest_sublot) ⊞ single text_obeyed ⊞ single (number_obeyed 0 greatest_amount)))
all_unread table.Movement = unread booked_columns (rules_of table.Movement)
    (same_for _ _ (single (number_obeyed 0 greatest_seq) ⊞ single line_number_obeyed ⊞ single movement_kind_obeyed ⊞ single id_obeyed ⊞ single (number_obeyed 0 greatest_sublot) ⊞ single id_or_null_obeyed ⊞ single sublot_or_null_obeyed ⊞ single id_or_null_obeyed
    ⊞ single (number_obeyed 1 greatest_amount) ⊞ single (number_obeyed 0 greatest_moment) ⊞ single text_obeyed ⊞ single text_obeyed))
all_unread table.Hold = unread hold_columns (rules_of table.Hold) (same_for _ _ (single id_obeyed ⊞ single id_obeyed ⊞ single (number_obeyed 0 greatest_moment) ⊞ single text_obeyed ⊞ single text_obeyed))
all_unread table.Edge = unread edge_columns (rules_of table.Edge) (same_for _ _ (single edge_kind_obeyed ⊞ single id_obeyed ⊞ single id_obeyed))
all_unread table.Receipt = unread receipt_columns (rules_of table.Receipt) (same_for _ _ (single id_obeyed ⊞ single (number_obeyed 0 greatest_seq) ⊞ single content_obeyed))
all_unread table.Recall = unread stated_columns (rules_of table.Recall)
    (same_for _ _ (single id_obeyed ⊞ single id_obeyed ⊞ single recall_state_obeyed ⊞ single (number_obeyed 0 greatest_moment) ⊞ single text_obeyed ⊞ single text_obeyed ⊞ single moment_or_null_obeyed ⊞ single text_or_null_obeyed ⊞ single text_or_null_obeyed))
all_unread table.Mark = unread mark_columns (rules_of table.Mark) (same_for _ _ (single id_obeyed ⊞ single mark_kind_obeyed ⊞ single id_obeyed))
