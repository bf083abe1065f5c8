-- Table by table: what whole rows keep.
use Rattle.std.proofs.Common.{◌≡◌, refl, ℕ, ◌≤◌, List, [], ◌∷◌, Option, Some, None, true, nat_le, arith, IfSome, leb-true}
use Rattle.std.proofs.lemmas.Bool.{and_parts}
use Rattle.std.proofs.lemmas.Bool.Decides.{nat_tests}
use Rattle.std.specs.Char.{is_ascii}
use Rattle.std.specs.List.{list_all}
use Rattle.plant_base.specs.{is_content_byte, is_there, ControlLine, Lifting, MasterLine, Movement, MovementKind, Recall, Receipt, is_id, greatest_amount, greatest_moment, greatest_seq, greatest_sublot}
use Rattle.plant_base.specs.RowValues.{HasLotValues, HasHoldValues, HasRecallValues, HasLiftingValues}
use Rattle.plant_tables_columns.specs.ValidValues.{HasMetaValues, HasRecipeValues, HasMasterLineValues, HasJobValues, HasBatchRowValues, HasControlLineValues, HasEventRowValues, HasSublotValues, HasMovementRowValues, HasEdgeValues, HasReceiptRowValues, HasMarkValues, HasKindRowValues}
use Rattle.plant_base.specs.declared.rows.MovementKind.TheVariants as kind
use Rattle.plant_tables_columns.specs.{is_in, greatest_number, booked_of, stated_of}
use Rattle.plant_tables_columns.specs.TableColumns.{meta_columns, recipe_columns, master_line_columns, job_columns, batch_columns, control_line_columns, batch_event_columns, lot_columns, sublot_columns, booked_columns, hold_columns, edge_columns, receipt_columns, stated_columns, mark_columns, row_of_meta, row_of_recipe, row_of_master_line, row_of_job, row_of_batch, row_of_control_line, row_of_event, row_of_lot, row_of_sublot, row_of_booked, row_of_movement, row_of_hold, row_of_edge, row_of_receipt, row_of_stated, row_of_recall, row_of_mark, meta_from, recipe_from, master_line_from, job_from, batch_from, control_line_from, batch_event_from, lot_from, sublot_from, booked_from, hold_from, edge_from, receipt_from, stated_from, mark_from}
use Rattle.plant_tables_columns.proofs.KindLaws.{Any, IsNumbered, id_kind, text_like, content_kind, number_kind, below_kind, one_kind}
use Rattle.plant_tables_columns.proofs.ColumnLaws.{one_lawful, ◌⊕◌, made_lawful, in_words}
use Rattle.plant_tables_columns.proofs.TableLaws.{recipe_state_kind, job_state_kind, edge_kind_kind, mark_kind_kind, header_lawful, HasMasterColumns, master_line_lawful, HasControlColumns, control_line_lawful, order_lawful, batch_lawful, event_lawful, HasBookedColumns, booked_lawful, HasStatedColumns, stated_lawful}
use Rattle.plant_tables_columns.proofs.StoredAndRead.{Reads, reads}
pub use Rattle.plant_tables_columns.proofs.PlainLaws.{class_reads, definition_reads}

pub meta_reads : Reads meta_from row_of_meta HasMetaValues Any
unfolding meta_from
meta_reads = reads meta_columns (in_words HasMetaValues Any (λ m g. record { schema = g.1.0; seq = g.1.1.0; at = g.1.1.1 }) (λ m h. (tt, (h.schema, (h.seq, h.at)))) (λ m _. (tt, (tt, (tt, tt))))
    (made_lawful _ _ (λ m. refl) (λ p. refl)
    (one_lawful one_kind ⊕ one_lawful (number_kind 1 greatest_number) ⊕ one_lawful (below_kind greatest_seq) ⊕ one_lawful (below_kind greatest_moment))))

pub recipe_reads : Reads recipe_from row_of_recipe HasRecipeValues Any
unfolding recipe_from
recipe_reads = reads recipe_columns (in_words HasRecipeValues Any (λ r g. record { header = g.0.values; version = g.0.version }) (λ r h. (record { values = h.header; version = h.version }, tt)) (λ r _. (tt, tt))
    (made_lawful _ _ (λ r. refl) (λ p. refl) (header_lawful ⊕ one_lawful recipe_state_kind)))

pub master_line_reads : Reads master_line_from row_of_master_line HasMasterColumns (λ l. IsNumbered l.number)
unfolding master_line_from
master_line_reads = reads master_line_columns master_line_lawful

pub control_line_reads : Reads control_line_from row_of_control_line HasControlColumns (λ l. IsNumbered l.number)
unfolding control_line_from
control_line_reads = reads control_line_columns control_line_lawful

pub job_reads : Reads job_from row_of_job HasJobValues Any
unfolding job_from
job_reads = reads job_columns (in_words HasJobValues Any (λ j g. g.0) (λ j h. (h, tt)) (λ j _. (tt, tt)) (made_lawful _ _ (λ j. refl) (λ p. refl) (order_lawful ⊕ one_lawful job_state_kind)))

pub batch_reads : Reads batch_from row_of_batch HasBatchRowValues Any
unfolding batch_from
batch_reads = reads batch_columns batch_lawful

pub event_reads : Reads batch_event_from row_of_event HasEventRowValues Any
unfolding batch_event_from
event_reads = reads batch_event_columns (in_words HasEventRowValues Any (λ e g. record { seq = g.0; batch = g.1.0; phase = g.1.1.0; at = g.1.1.1.0; by = g.1.1.1.1.0; note = g.1.1.1.1.1 }) (λ e h. (h.seq, (h.batch, (h.phase, (h.at, (h.by, h.note)))))) (λ e _. (tt, (tt, (tt, (tt, (tt, tt))))))
    (made_lawful _ _ (λ e. refl) (λ p. refl)
    (one_lawful (below_kind greatest_seq) ⊕ one_lawful id_kind ⊕ event_lawful ⊕ one_lawful (below_kind greatest_moment) ⊕ one_lawful text_like ⊕ one_lawful text_like)))

pub lot_reads : Reads lot_from row_of_lot HasLotValues Any
unfolding lot_from
lot_reads = reads lot_columns (in_words HasLotValues Any (λ l g. record { id = g.0; def = g.1 }) (λ l h. (h.id, h.def)) (λ l _. (tt, tt)) (made_lawful _ _ (λ l. refl) (λ p. refl) (one_lawful id_kind ⊕ one_lawful id_kind)))

pub sublot_reads : Reads sublot_from row_of_sublot HasSublotValues Any
unfolding sublot_from
sublot_reads = reads sublot_columns (in_words HasSublotValues Any (λ s g. record { lot = g.0; number = g.1.0; place = g.1.1.0; stock = g.1.1.1 }) (λ s h. (h.lot, (h.number, (h.place, h.stock)))) (λ s _. (tt, (tt, (tt, tt))))
    (made_lawful _ _ (λ s. refl) (λ p. refl)
    (one_lawful id_kind ⊕ one_lawful (below_kind greatest_sublot) ⊕ one_lawful text_like ⊕ one_lawful (below_kind greatest_amount))))

pub booked_reads : Reads booked_from row_of_booked HasBookedColumns (λ r. IsNumbered r.line)
unfolding booked_from
booked_reads = reads booked_columns booked_lawful

pub hold_reads : Reads hold_from row_of_hold HasHoldValues Any
unfolding hold_from
hold_reads = reads hold_columns (in_words HasHoldValues Any (λ h g. record { lot = g.0; id = g.1.0; at = g.1.1.0; by = g.1.1.1.0; note = g.1.1.1.1 }) (λ h is. (is.lot, (is.id, (is.at, (is.by, is.note))))) (λ h _. (tt, (tt, (tt, (tt, tt)))))
    (made_lawful _ _ (λ h. refl) (λ p. refl)
    (one_lawful id_kind ⊕ one_lawful id_kind ⊕ one_lawful (below_kind greatest_moment) ⊕ one_lawful text_like ⊕ one_lawful text_like)))

pub edge_reads : Reads edge_from row_of_edge HasEdgeValues Any
unfolding edge_from
edge_reads = reads edge_columns (in_words HasEdgeValues Any (λ e g. record { from = g.1.0; to = g.1.1 }) (λ e h. (tt, (h.from, h.to))) (λ e _. (tt, (tt, tt)))
    (made_lawful _ _ (λ e. refl) (λ p. refl) (one_lawful edge_kind_kind ⊕ one_lawful id_kind ⊕ one_lawful id_kind)))

-- a receipt, whose content has no rule but that of its column
pub record HasReceiptColumns (r : Receipt) : Type 0 where
  pub reference : is_id r.reference ≡ true
  pub seq : nat_le r.seq greatest_seq ≡ true
  pub content : list_all is_ascii r.content ≡ true

pub receipt_reads : Reads receipt_from row_of_receipt HasReceiptColumns (λ r. is_there r.content ≡ true)
unfolding receipt_from
receipt_reads = reads receipt_columns (in_words HasReceiptColumns (λ r. is_there r.content ≡ true) (λ r g. record { reference = g.0; seq = g.1.0; content = g.1.1 }) (λ r h. (h.reference, (h.seq, h.content))) (λ r there. (tt, (tt, there)))
    (made_lawful _ _ (λ r. refl) (λ p. refl) (one_lawful id_kind ⊕ one_lawful (below_kind greatest_seq) ⊕ one_lawful content_kind)))

pub stated_reads : Reads stated_from row_of_stated HasStatedColumns Any
unfolding stated_from
stated_reads = reads stated_columns stated_lawful

pub mark_reads : Reads mark_from row_of_mark HasMarkValues Any
unfolding mark_from
mark_reads = reads mark_columns (in_words HasMarkValues Any (λ m g. record { recall = g.0; id = g.1.1 }) (λ m h. (h.recall, (tt, h.id))) (λ m _. (tt, (tt, tt)))
    (made_lawful _ _ (λ m. refl) (λ p. refl) (one_lawful id_kind ⊕ one_lawful mark_kind_kind ⊕ one_lawful id_kind)))

-- ---- lines that have a number, and movements

number_high : (n : ℕ) → is_in 1 65535 n ≡ true → n ≤ 65535
number_high n h = leb-true n 65535 (and_parts (nat_le 1 n) (nat_le n 65535) h).1

pub number_low : (n : ℕ) → is_in 1 65535 n ≡ true → 1 ≤ n
number_low n h = leb-true 1 n (and_parts (nat_le 1 n) (nat_le n 65535) h).0

pub master_line_again : (l : MasterLine) → HasMasterLineValues l → master_line_from (row_of_master_line l) ≡ Some l
master_line_again l valid = master_line_reads.again l (record { recipe = valid.recipe; version = valid.version; number = number_high l.number valid.number; line = valid.line }) (number_low l.number valid.number)

pub control_line_again : (l : ControlLine) → HasControlLineValues l → control_line_from (row_of_control_line l) ≡ Some l
control_line_again l valid = control_line_reads.again l (record { batch = valid.batch; number = number_high l.number valid.number; line = valid.line }) (number_low l.number valid.number)

booked_valid : (m : Movement) (k : MovementKind) → m.kind ≡ k → HasKindRowValues k → HasMovementRowValues m → HasBookedColumns (booked_of (record m { kind = k }))
booked_valid m kind.Received is named valid = record { seq = valid.seq; line = number_high m.line valid.line; lot = valid.lot; sub = valid.sub; lot2 = tt; sub2 = tt; batch = tt; amount = valid.amount; at = valid.at; by = valid.by; note = valid.note }
booked_valid m (kind.Consumed batch) is named valid = record { seq = valid.seq; line = number_high m.line valid.line; lot = valid.lot; sub = valid.sub; lot2 = tt; sub2 = tt; batch = named; amount = valid.amount; at = valid.at; by = valid.by; note = valid.note }
booked_valid m (kind.Produced batch) is named valid = record { seq = valid.seq; line = number_high m.line valid.line; lot = valid.lot; sub = valid.sub; lot2 = tt; sub2 = tt; batch = named; amount = valid.amount; at = valid.at; by = valid.by; note = valid.note }
booked_valid m kind.Scrapped is named valid = record { seq = valid.seq; line = number_high m.line valid.line; lot = valid.lot; sub = valid.sub; lot2 = tt; sub2 = tt; batch = tt; amount = valid.amount; at = valid.at; by = valid.by; note = valid.note }
booked_valid m (kind.Divided to) is named valid = record { seq = valid.seq; line = number_high m.line valid.line; lot = valid.lot; sub = valid.sub; lot2 = valid.lot; sub2 = named; batch = tt; amount = valid.amount; at = valid.at; by = valid.by; note = valid.note }
booked_valid m (kind.Split to) is named valid = record { seq = valid.seq; line = number_high m.line valid.line; lot = valid.lot; sub = valid.sub; lot2 = named; sub2 = refl; batch = tt; amount = valid.amount; at = valid.at; by = valid.by; note = valid.note }
booked_valid m (kind.Merged to) is named valid = record { seq = valid.seq; line = number_high m.line valid.line; lot = valid.lot; sub = valid.sub; lot2 = named; sub2 = refl; batch = tt; amount = valid.amount; at = valid.at; by = valid.by; note = valid.note }

pub movement_row_again : (m : Movement) → HasMovementRowValues m → booked_from (row_of_movement m) ≡ Some (booked_of m)
movement_row_again m valid = booked_reads.again (booked_of m) (booked_valid m m.kind refl valid.kind valid) (number_low m.line valid.line)

-- ---- receipts

content_ascii_byte : (b : ℕ) → is_content_byte b ≡ true → is_ascii b ≡ true
content_ascii_byte b h = grind (arith, nat_tests)

content_ascii : (bs : List ℕ) → list_all is_content_byte bs ≡ true → list_all is_ascii bs ≡ true
content_ascii [] h = refl
content_ascii (b ∷ bs) h =
    let parts = and_parts (is_content_byte b) (list_all is_content_byte bs) h in
    rw (content_ascii_byte b parts.0, content_ascii bs parts.1) refl

-- a content that obeys its rule isn't empty
pub content_there : (r : Receipt) → HasReceiptRowValues r → is_there r.content ≡ true
content_there r valid = (and_parts (is_there r.content) (list_all is_content_byte r.content) valid.content).0

pub receipt_again : (r : Receipt) → HasReceiptRowValues r → receipt_from (row_of_receipt r) ≡ Some r
receipt_again r valid =
    let bytes = (and_parts (is_there r.content) (list_all is_content_byte r.content) valid.content).1 in
    receipt_reads.again r (record { reference = valid.reference; seq = valid.seq; content = content_ascii r.content bytes }) (content_there r valid)

-- ---- recalls

stated_valid : (r : Recall) (o : Option Lifting) → IfSome o HasLiftingValues → HasRecallValues r → HasStatedColumns (stated_of (record r { lifting = o }))
stated_valid r None reported valid = record { id = valid.id; lot = valid.lot; at = valid.at; by = valid.by; note = valid.note; lift_at = tt; lift_by = tt; lift_note = tt }
stated_valid r (Some l) reported valid = record { id = valid.id; lot = valid.lot; at = valid.at; by = valid.by; note = valid.note; lift_at = reported.at; lift_by = reported.by; lift_note = reported.note }

pub recall_row_again : (r : Recall) → HasRecallValues r → stated_from (row_of_recall r) ≡ Some (stated_of r)
recall_row_again r valid = stated_reads.again (stated_of r) (stated_valid r r.lifting valid.lifting valid) tt
