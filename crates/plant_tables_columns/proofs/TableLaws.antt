-- What the columns of rows and of their parts keep.
use Rattle.std.proofs.Common.{◌≡◌, refl, ap, ap₂, ◌∙◌, subst, ℕ, suc, ◌+◌, ◌≤◌, ℤ, List, true, nat_le, Some, arith, option_and_then}
use Rattle.std.proofs.lemmas.Bool.{and_from, and_parts}
use Rattle.sqlite.specs.declared.types.Value.{Value}
use Rattle.sqlite.specs.declared.types.Value.TheVariants.{Int, Text}
use Rattle.sqlite.specs.Order.{Row, column}
use Rattle.plant_base.specs.{is_id, is_text, is_amount, is_moment, greatest_amount, greatest_moment, greatest_phase, greatest_priority, greatest_seq, greatest_sublot, greatest_version, is_version, is_priority, HasHeaderValues, HasLineValues, recipe_state_name, job_state_name, batch_state_name, ControlLine, Event, Header, MasterLine, edge_kind_number, mark_kind_number, HasPhaseNumber}
use Rattle.plant_recipe.specs.{greatest_attempt}
use Rattle.plant_view.specs.{HasBatchValues, HasValidOrder}
use Rattle.plant_tables_columns.specs.{number, recipe_states, job_states, batch_states, recall_states, movement_kind_codes, edge_kinds, mark_kinds, text_in, integer_in, all_recipe_states, all_job_states, all_batch_states, all_recall_states, all_movement_kind_codes, all_edge_kinds, all_mark_kinds, event_phase, recipe_state_from, job_state_from, batch_state_from, recall_state_name, recall_state_from, event_named, event_from, movement_kind_number, movement_kind_from, edge_kind_from, mark_kind_from, event_columns, header_columns, master_line_columns, control_line_columns, order_columns, released_columns, batch_columns, booked_columns, stated_columns, HasBatchRowValues}
use Rattle.plant_tables_columns.specs.declared.booked.BookedRow.{BookedRow}
use Rattle.plant_tables_columns.specs.declared.recalls.StatedRecall.{StatedRecall}
use Rattle.plant_tables_columns.proofs.OptionalValues.{bound}
use Rattle.plant_tables_columns.proofs.KindLaws.{IsKind, Any, ValidOrNone, text_is, integer_is, id_kind, text_like, due_kind, number_kind, below_kind, line_number_kind, IsNumbered, flag_kind, optional_id_kind, optional_sublot_kind, optional_moment_kind, optional_text_kind}
use Rattle.plant_tables_columns.proofs.WordsAndNumbers.{named_kind, numbered_kind, recipe_state_own, job_state_own, batch_state_own, recall_state_own, event_back, event_own, movement_kind_own, edge_kind_own, mark_kind_own}
use Rattle.plant_tables_columns.proofs.LineLaws.{line_lawful}
use Rattle.plant_tables_columns.proofs.ColumnLaws.{AreLawful, StoredFrom, one_lawful, ◌⊕◌, made_lawful, in_words}

-- ---- words

pub recipe_state_kind : IsKind recipe_states Any Any
unfolding recipe_state_from
recipe_state_kind = named_kind recipe_state_name all_recipe_states recipe_state_own

pub job_state_kind : IsKind job_states Any Any
unfolding job_state_from
job_state_kind = named_kind job_state_name all_job_states job_state_own

batch_state_kind : IsKind batch_states Any Any
unfolding batch_state_from
batch_state_kind = named_kind batch_state_name all_batch_states batch_state_own

recall_state_kind : IsKind recall_states Any Any
unfolding recall_state_from
recall_state_kind = named_kind recall_state_name all_recall_states recall_state_own

movement_sort_kind : IsKind movement_kind_codes Any Any
unfolding movement_kind_from
movement_sort_kind = numbered_kind movement_kind_number all_movement_kind_codes movement_kind_own

pub edge_kind_kind : IsKind edge_kinds Any Any
unfolding edge_kind_from
edge_kind_kind = numbered_kind edge_kind_number all_edge_kinds edge_kind_own

pub mark_kind_kind : IsKind mark_kinds Any Any
unfolding mark_kind_from
mark_kind_kind = numbered_kind mark_kind_number all_mark_kinds mark_kind_own

record IsEventOfBoth (v w : Value) (e : Event) : Type 0 where
  pub name : List ℕ
  pub phase : ℤ
  pub is_word : v ≡ Text name
  pub is_phase : w ≡ Int phase
  pub says : event_named name phase ≡ Some e

event_parts : (v w : Value) (e : Event) → event_from v w ≡ Some e → IsEventOfBoth v w e
unfolding event_from
event_parts v w e h =
    let p1 = bound (text_in v) (λ name. option_and_then (λ number. event_named name number) (integer_in w)) e h in
    let p2 = bound (integer_in w) (λ number. event_named p1.0 number) e p1.2 in
    record { name = p1.0; phase = p2.0; is_word = text_is v p1.0 p1.1; is_phase = integer_is w p2.0 p2.1; says = p2.2 }

event_back_whole : (row : Row) (at : ℕ) (e : Event) → event_columns.read row at ≡ Some e → StoredFrom row at (event_columns.stored e)
event_back_whole row at e h =
    let p = event_parts (column row at) (column row (at + 1)) e h in
    let is = event_back p.name p.phase e p.says in
    let next : at + 1 ≡ suc at = omega arith in
    (p.is_word ∙ ap Text is.is_named, (subst (λ k. column row k ≡ number (event_phase e)) next (p.is_phase ∙ ap Int is.has_phase), tt))

pub event_lawful : AreLawful event_columns HasPhaseNumber Any
unfolding event_from
event_lawful = record {
  fits = λ e. refl;
  back = λ row at e h _. event_back_whole row at e h;
  again = λ row at e h is _. let next : suc at ≡ at + 1 = omega arith in ap₂ event_from h.0 (subst (λ k. column row k ≡ number (event_phase e)) next h.1.0) ∙ event_own e is;
  keeps = λ row at e h. let p = event_parts (column row at) (column row (at + 1)) e h in (event_back p.name p.phase e p.says).has_number;
}

-- ---- tables

-- a header with its version
pub record HasHeaderColumns (h : Header) : Type 0 where
  pub values : HasHeaderValues h
  pub version : is_version h.version ≡ true

pub header_lawful : AreLawful header_columns HasHeaderColumns Any
header_lawful = in_words HasHeaderColumns Any
    (λ h g. record {
      values = record { recipe = g.0; product = g.1.1.0; base = g.1.1.1.0; least = g.1.1.1.1.0; greatest = g.1.1.1.1.1.0; title = g.1.1.1.1.1.1 };
      version = g.1.0;
    })
    (λ h is. (is.values.recipe, (is.version, (is.values.product, (is.values.base, (is.values.least, (is.values.greatest, is.values.title)))))))
    (λ h _. (tt, (tt, (tt, (tt, (tt, (tt, tt)))))))
    (made_lawful _ _ (λ h. refl) (λ p. refl)
    (one_lawful id_kind ⊕ one_lawful (number_kind 1 greatest_version) ⊕ one_lawful id_kind ⊕ one_lawful (number_kind 1 greatest_amount) ⊕ one_lawful (number_kind 1 greatest_amount) ⊕ one_lawful (number_kind 1 greatest_amount) ⊕ one_lawful text_like))

-- ---- lines, whose number has no rule but that a column holds it

pub record HasMasterColumns (l : MasterLine) : Type 0 where
  pub recipe : is_id l.recipe ≡ true
  pub version : is_version l.version ≡ true
  pub number : l.number ≤ 65535
  pub line : HasLineValues l.line

pub master_line_lawful : AreLawful master_line_columns HasMasterColumns (λ l. IsNumbered l.number)
master_line_lawful = in_words HasMasterColumns (λ l. IsNumbered l.number) (λ l g. record { recipe = g.0; version = g.1.0; number = g.1.1.0; line = g.1.1.1 }) (λ l h. (h.recipe, (h.version, (h.number, h.line)))) (λ l low. (tt, (tt, (low, tt))))
    (made_lawful _ _ (λ l. refl) (λ p. refl)
    (one_lawful id_kind ⊕ one_lawful (number_kind 1 greatest_version) ⊕ one_lawful line_number_kind ⊕ line_lawful))

pub record HasControlColumns (l : ControlLine) : Type 0 where
  pub batch : is_id l.batch ≡ true
  pub number : l.number ≤ 65535
  pub line : HasLineValues l.line

pub control_line_lawful : AreLawful control_line_columns HasControlColumns (λ l. IsNumbered l.number)
control_line_lawful = in_words HasControlColumns (λ l. IsNumbered l.number) (λ l g. record { batch = g.0; number = g.1.0; line = g.1.1 }) (λ l h. (h.batch, (h.number, h.line))) (λ l low. (tt, (low, tt)))
    (made_lawful _ _ (λ l. refl) (λ p. refl) (one_lawful id_kind ⊕ one_lawful line_number_kind ⊕ line_lawful))

-- ---- orders and batches

pub order_lawful : AreLawful order_columns HasValidOrder Any
order_lawful = in_words HasValidOrder Any
    (λ o g. (record { order = g.0; recipe = g.1.0; size = g.1.1.1.0; due = g.1.1.1.1.0 }, and_from (is_version o.version) (is_priority o.priority) g.1.1.0 g.1.1.1.1.1))
    (λ o h. let numbers = and_parts (is_version o.version) (is_priority o.priority) h.1 in (h.0.order, (h.0.recipe, (numbers.0, (h.0.size, (h.0.due, numbers.1))))))
    (λ o _. (tt, (tt, (tt, (tt, (tt, tt))))))
    (made_lawful _ _ (λ o. refl) (λ p. refl)
    (one_lawful id_kind ⊕ one_lawful id_kind ⊕ one_lawful (number_kind 1 greatest_version) ⊕ one_lawful (number_kind 1 greatest_amount) ⊕ one_lawful due_kind ⊕ one_lawful (number_kind 1 greatest_priority)))

released_lawful : AreLawful released_columns HasBatchValues Any
released_lawful = in_words HasBatchValues Any (λ b g. record { id = g.0; job = g.1.0; at = g.1.1.0; by = g.1.1.1.0; note = g.1.1.1.1 }) (λ b h. (h.id, (h.job, (h.at, (h.by, h.note))))) (λ b _. (tt, (tt, (tt, (tt, tt)))))
    (made_lawful _ _ (λ b. refl) (λ p. refl)
    (one_lawful id_kind ⊕ one_lawful id_kind ⊕ one_lawful (below_kind greatest_moment) ⊕ one_lawful text_like ⊕ one_lawful text_like))

pub batch_lawful : AreLawful batch_columns HasBatchRowValues Any
batch_lawful = in_words HasBatchRowValues Any (λ b g. record { batch = g.0; attempt = g.1.1.0; next = g.1.1.1.0 }) (λ b h. (h.batch, (tt, (h.attempt, (h.next, tt))))) (λ b _. (tt, (tt, (tt, (tt, tt)))))
    (made_lawful _ _ (λ b. refl) (λ p. refl)
    (released_lawful ⊕ one_lawful batch_state_kind ⊕ one_lawful (number_kind 1 greatest_attempt) ⊕ one_lawful (number_kind 1 greatest_phase) ⊕ one_lawful flag_kind))

-- ---- lots

pub record HasBookedColumns (r : BookedRow) : Type 0 where
  pub seq : nat_le r.seq greatest_seq ≡ true
  pub line : r.line ≤ 65535
  pub lot : is_id r.lot ≡ true
  pub sub : nat_le r.sub greatest_sublot ≡ true
  pub lot2 : ValidOrNone (λ id. is_id id ≡ true) r.lot2
  pub sub2 : ValidOrNone (λ n. nat_le n greatest_sublot ≡ true) r.sub2
  pub batch : ValidOrNone (λ id. is_id id ≡ true) r.batch
  pub amount : is_amount r.amount ≡ true
  pub at : is_moment r.at ≡ true
  pub by : is_text r.by ≡ true
  pub note : is_text r.note ≡ true

pub booked_lawful : AreLawful booked_columns HasBookedColumns (λ r. IsNumbered r.line)
booked_lawful = in_words HasBookedColumns (λ r. IsNumbered r.line)
    (λ r g. record {
      seq = g.0;
      line = g.1.0;
      lot = g.1.1.1.0;
      sub = g.1.1.1.1.0;
      lot2 = g.1.1.1.1.1.0;
      sub2 = g.1.1.1.1.1.1.0;
      batch = g.1.1.1.1.1.1.1.0;
      amount = g.1.1.1.1.1.1.1.1.0;
      at = g.1.1.1.1.1.1.1.1.1.0;
      by = g.1.1.1.1.1.1.1.1.1.1.0;
      note = g.1.1.1.1.1.1.1.1.1.1.1;
    })
    (λ r h. (h.seq, (h.line, (tt, (h.lot, (h.sub, (h.lot2, (h.sub2, (h.batch, (h.amount, (h.at, (h.by, h.note))))))))))))
    (λ r low. (tt, (low, (tt, (tt, (tt, (tt, (tt, (tt, (tt, (tt, (tt, tt))))))))))))
    (made_lawful _ _ (λ r. refl) (λ p. refl)
    (one_lawful (below_kind greatest_seq) ⊕ one_lawful line_number_kind ⊕ one_lawful movement_sort_kind ⊕ one_lawful id_kind ⊕ one_lawful (below_kind greatest_sublot) ⊕ one_lawful optional_id_kind ⊕ one_lawful optional_sublot_kind ⊕ one_lawful optional_id_kind ⊕ one_lawful (number_kind 1 greatest_amount) ⊕ one_lawful (below_kind greatest_moment) ⊕ one_lawful text_like ⊕ one_lawful text_like))

-- ---- recalls

pub record HasStatedColumns (r : StatedRecall) : Type 0 where
  pub id : is_id r.id ≡ true
  pub lot : is_id r.lot ≡ true
  pub at : is_moment r.at ≡ true
  pub by : is_text r.by ≡ true
  pub note : is_text r.note ≡ true
  pub lift_at : ValidOrNone (λ n. is_moment n ≡ true) r.lift_at
  pub lift_by : ValidOrNone (λ t. is_text t ≡ true) r.lift_by
  pub lift_note : ValidOrNone (λ t. is_text t ≡ true) r.lift_note

pub stated_lawful : AreLawful stated_columns HasStatedColumns Any
stated_lawful = in_words HasStatedColumns Any
    (λ r g. record {
      id = g.0;
      lot = g.1.0;
      at = g.1.1.1.0;
      by = g.1.1.1.1.0;
      note = g.1.1.1.1.1.0;
      lift_at = g.1.1.1.1.1.1.0;
      lift_by = g.1.1.1.1.1.1.1.0;
      lift_note = g.1.1.1.1.1.1.1.1;
    })
    (λ r h. (h.id, (h.lot, (tt, (h.at, (h.by, (h.note, (h.lift_at, (h.lift_by, h.lift_note)))))))))
    (λ r _. (tt, (tt, (tt, (tt, (tt, (tt, (tt, (tt, tt)))))))))
    (made_lawful _ _ (λ r. refl) (λ p. refl)
    (one_lawful id_kind ⊕ one_lawful id_kind ⊕ one_lawful recall_state_kind ⊕ one_lawful (below_kind greatest_moment) ⊕ one_lawful text_like ⊕ one_lawful text_like ⊕ one_lawful optional_moment_kind ⊕ one_lawful optional_text_kind ⊕ one_lawful optional_text_kind))
