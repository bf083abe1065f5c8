-- The columns of each table, what each row of the desk is stored as in them, and the row of the desk that is decoded
-- from a stored row: nothing where one of its values breaks its rule.
use Rattle.std.specs.Prelude.{◌+◌, List, [], ◌∷◌, Bool, ◌&&◌, Option, Some, None, option_map, codes, if◌then◌else◌}
use Rattle.sqlite.specs.declared.types.Value.{Value}
use Rattle.sqlite.specs.declared.types.Value.TheVariants.{Null, Text}
use Rattle.sqlite.specs.Order.{Row, column}
use Rattle.plant_base.specs.{◌>>=◌, greatest_phase, greatest_priority, greatest_version}
use Rattle.plant_recipe.specs.{greatest_attempt}
use Rattle.plant_base.specs.{Batch, BatchEvent, BatchRow, ControlLine, EdgeRow, Event, Header, Hold, Job, Lot, Mark, MasterLine, Meta, Movement, OrderRow, Recall, Receipt, Recipe, RecipeLine, Sublot}
use Rattle.plant_base.specs.declared.rows.RecipeLine.TheVariants as line
use Rattle.sql_tables.specs.{integer, text, text_or_null}
use Rattle.plant_tables_columns.specs.Reading.{id_from, text_from, amount_from, greatest_number, is_null, is_empty, is_zero}
use Rattle.plant_tables_columns.specs.Columns.{Columns, one, ◌⊗◌, made, read_row}
use Rattle.plant_tables_columns.specs.Kinds.{number, ids, texts, dues, contents, numbers, amounts, stocks, moments, seqs, sublot_numbers, line_numbers, always_one, flags, recipe_states, job_states, batch_states, recall_states, movement_kind_codes, edge_kinds, mark_kinds, ids_or_none, sublot_numbers_or_none, moments_or_none, texts_or_none}
use Rattle.plant_tables_columns.specs.Naming.{event_name, event_phase, event_from, line_kind_from}
use Rattle.plant_tables_columns.specs.declared.line.LineKindCode.{LineKindCode}
use Rattle.plant_tables_columns.specs.declared.line.LineKindCode.TheVariants as line_kind_code
use Rattle.plant_tables_columns.specs.declared.line.Material.{Material}
use Rattle.plant_tables_columns.specs.declared.booked.BookedRow.{BookedRow}
use Rattle.plant_tables_columns.specs.declared.recalls.StatedRecall.{StatedRecall}
use Rattle.plant_tables_columns.specs.Booked.{movement_from, booked_of}
use Rattle.plant_tables_columns.specs.StatedRecalls.{recall_from, stated_of}

-- ---- meta

abbrev pub meta_columns : Columns Meta
meta_columns = made (λ (k, (schema, (seq, at))). record { schema = schema; position = record { seq = seq; at = at } })
    (λ m. (tt, (m.schema, (m.position.seq, m.position.at))))
    (one (codes "k") always_one ⊗ one (codes "schema") (numbers 1 greatest_number) ⊗ one (codes "seq") seqs ⊗ one (codes "at") moments)

abbrev pub row_of_meta : Meta → Row
row_of_meta = meta_columns.stored

unfoldable pub meta_from : Row → Option Meta
meta_from = read_row meta_columns

-- the one row of table meta
unfoldable pub only_meta : List Row → Option Meta
only_meta [] = None
only_meta (x ∷ []) = meta_from x
only_meta (x ∷ y ∷ more) = None

-- ---- classes, definitions and recipes

abbrev pub header_columns : Columns Header
header_columns = made (λ (recipe, (version, (product, (base, (least, (greatest, title)))))). record { recipe = recipe; version = version; product = product; base = base; least = least; greatest = greatest; title = title })
    (λ h. (h.recipe, (h.version, (h.product, (h.base, (h.least, (h.greatest, h.title)))))))
    (one (codes "id") ids ⊗ one (codes "version") (numbers 1 greatest_version) ⊗ one (codes "product") ids ⊗ one (codes "base") amounts ⊗ one (codes "low") amounts ⊗ one (codes "high") amounts ⊗ one (codes "title") texts)

abbrev pub recipe_columns : Columns Recipe
recipe_columns = made (λ (header, state). record { header = header; state = state })
    (λ r. (r.header, r.state))
    (header_columns ⊗ one (codes "state") recipe_states)

abbrev pub row_of_recipe : Recipe → Row
row_of_recipe = recipe_columns.stored

unfoldable pub recipe_from : Row → Option Recipe
recipe_from = read_row recipe_columns

-- ---- lines

-- the material of an in or out, which uses no text
unfoldable pub material_from : Value → Value → Value → Value → Value → Option Material
material_from def qty t1 t2 t3 = if is_empty t1 && is_empty t2 && is_empty t3 then (do
  id ← id_from def
  amount ← amount_from qty
  Some (record { def = id; amount = amount })) else None

-- the line names no material
unfoldable pub has_no_material : Value → Value → Bool
has_no_material def qty = is_null def && is_zero qty

unfoldable pub parameter_from : Value → Value → Value → Value → Value → Option RecipeLine
parameter_from def qty t1 t2 t3 = if has_no_material def qty && is_empty t3 then (do
  name ← id_from t1
  value ← text_from t2
  Some (line.Parameter name value)) else None

unfoldable pub phase_from : Value → Value → Value → Value → Value → Option RecipeLine
phase_from def qty t1 t2 t3 = if has_no_material def qty then (do
  unit_procedure ← id_from t1
  operation ← id_from t2
  phase ← id_from t3
  Some (line.Phase unit_procedure operation phase)) else None

-- a line of this kind, from its columns
abbrev pub line_of_code : LineKindCode → Value → Value → Value → Value → Value → Option RecipeLine
line_of_code line_kind_code.In def qty t1 t2 t3 = option_map (λ m. line.In m.def m.amount) (material_from def qty t1 t2 t3)
line_of_code line_kind_code.Out def qty t1 t2 t3 = option_map (λ m. line.Out m.def m.amount) (material_from def qty t1 t2 t3)
line_of_code line_kind_code.Parameter def qty t1 t2 t3 = parameter_from def qty t1 t2 t3
line_of_code line_kind_code.Phase def qty t1 t2 t3 = phase_from def qty t1 t2 t3

-- the line that has these columns: kind, def, qty, t1, t2, t3
unfoldable pub line_from : Value → Value → Value → Value → Value → Value → Option RecipeLine
line_from kind def qty t1 t2 t3 = do
  kind_code ← line_kind_from kind
  line_of_code kind_code def qty t1 t2 t3

-- kind, def, qty, t1, t2 and t3 of a line
abbrev pub columns_of_line : RecipeLine → Row
columns_of_line (line.In def amount) = number 1 ∷ Text def ∷ number amount ∷ Text [] ∷ Text [] ∷ Text [] ∷ []
columns_of_line (line.Out def amount) = number 2 ∷ Text def ∷ number amount ∷ Text [] ∷ Text [] ∷ Text [] ∷ []
columns_of_line (line.Parameter name value) = number 3 ∷ Null ∷ number 0 ∷ Text name ∷ Text value ∷ Text [] ∷ []
columns_of_line (line.Phase unit_procedure operation phase) = number 4 ∷ Null ∷ number 0 ∷ Text unit_procedure ∷ Text operation ∷ Text phase ∷ []

abbrev pub line_columns : Columns RecipeLine
line_columns = record {
  declared = integer (codes "kind") ∷ text_or_null (codes "def") ∷ integer (codes "qty") ∷ text (codes "t1") ∷ text (codes "t2") ∷ text (codes "t3") ∷ [];
  stored = columns_of_line;
  read = λ row at. line_from (column row at) (column row (at + 1)) (column row (at + 2)) (column row (at + 3)) (column row (at + 4)) (column row (at + 5));
}

abbrev pub master_line_columns : Columns MasterLine
master_line_columns = made (λ (recipe, (version, (number, l))). record { recipe = recipe; version = version; number = number; line = l })
    (λ l. (l.recipe, (l.version, (l.number, l.line))))
    (one (codes "recipe") ids ⊗ one (codes "version") (numbers 1 greatest_version) ⊗ one (codes "no") line_numbers ⊗ line_columns)

abbrev pub row_of_master_line : MasterLine → Row
row_of_master_line = master_line_columns.stored

unfoldable pub master_line_from : Row → Option MasterLine
master_line_from = read_row master_line_columns

abbrev pub control_line_columns : Columns ControlLine
control_line_columns = made (λ (batch, (number, l)). record { batch = batch; number = number; line = l })
    (λ l. (l.batch, (l.number, l.line)))
    (one (codes "batch") ids ⊗ one (codes "no") line_numbers ⊗ line_columns)

abbrev pub row_of_control_line : ControlLine → Row
row_of_control_line = control_line_columns.stored

unfoldable pub control_line_from : Row → Option ControlLine
control_line_from = read_row control_line_columns

-- ---- orders and batches

abbrev pub order_columns : Columns OrderRow
order_columns = made (λ (order, (recipe, (version, (size, (due, priority))))). record { order = order; recipe = recipe; version = version; size = size; due = due; priority = priority })
    (λ o. (o.order, (o.recipe, (o.version, (o.size, (o.due, o.priority))))))
    (one (codes "id") ids ⊗ one (codes "recipe") ids ⊗ one (codes "version") (numbers 1 greatest_version) ⊗ one (codes "size") amounts ⊗ one (codes "due") dues ⊗ one (codes "priority") (numbers 1 greatest_priority))

abbrev pub job_columns : Columns Job
job_columns = made (λ (order, state). record { order = order; state = state })
    (λ j. (j.order, j.state))
    (order_columns ⊗ one (codes "state") job_states)

abbrev pub row_of_job : Job → Row
row_of_job = job_columns.stored

unfoldable pub job_from : Row → Option Job
job_from = read_row job_columns

abbrev pub released_columns : Columns Batch
released_columns = made (λ (id, (job, (at, (by, note)))). record { id = id; job = job; at = at; by = by; note = note })
    (λ b. (b.id, (b.job, (b.at, (b.by, b.note)))))
    (one (codes "id") ids ⊗ one (codes "job") ids ⊗ one (codes "at") moments ⊗ one (codes "by_who") texts ⊗ one (codes "note") texts)

abbrev pub batch_columns : Columns BatchRow
batch_columns = made (λ (batch, (state, (attempt, (next, closed)))). record { batch = batch; state = state; attempt = attempt; next = next; closed = closed })
    (λ b. (b.batch, (b.state, (b.attempt, (b.next, b.closed)))))
    (released_columns ⊗ one (codes "state") batch_states ⊗ one (codes "attempt") (numbers 1 greatest_attempt) ⊗ one (codes "next") (numbers 1 greatest_phase) ⊗ one (codes "closed") flags)

abbrev pub row_of_batch : BatchRow → Row
row_of_batch = batch_columns.stored

unfoldable pub batch_from : Row → Option BatchRow
batch_from = read_row batch_columns

-- the word and the phase of an event, which say what it is together
abbrev pub event_columns : Columns Event
event_columns = record {
  declared = text (codes "word") ∷ integer (codes "phase") ∷ [];
  stored = λ e. Text (event_name e) ∷ number (event_phase e) ∷ [];
  read = λ row at. event_from (column row at) (column row (at + 1));
}

abbrev pub batch_event_columns : Columns BatchEvent
batch_event_columns = made (λ (seq, (batch, (event, (at, (by, note))))). record { seq = seq; batch = batch; event = event; at = at; by = by; note = note })
    (λ e. (e.seq, (e.batch, (e.event, (e.at, (e.by, e.note))))))
    (one (codes "seq") seqs ⊗ one (codes "batch") ids ⊗ event_columns ⊗ one (codes "at") moments ⊗ one (codes "by_who") texts ⊗ one (codes "note") texts)

abbrev pub row_of_event : BatchEvent → Row
row_of_event = batch_event_columns.stored

unfoldable pub batch_event_from : Row → Option BatchEvent
batch_event_from = read_row batch_event_columns

-- ---- lots

abbrev pub lot_columns : Columns Lot
lot_columns = made (λ (id, def). record { id = id; def = def })
    (λ l. (l.id, l.def))
    (one (codes "id") ids ⊗ one (codes "def") ids)

abbrev pub row_of_lot : Lot → Row
row_of_lot = lot_columns.stored

unfoldable pub lot_from : Row → Option Lot
lot_from = read_row lot_columns

abbrev pub sublot_columns : Columns Sublot
sublot_columns = made (λ (lot, (number, (place, stock))). record { lot = lot; number = number; place = place; stock = stock })
    (λ s. (s.lot, (s.number, (s.place, s.stock))))
    (one (codes "lot") ids ⊗ one (codes "no") sublot_numbers ⊗ one (codes "place") texts ⊗ one (codes "stock") stocks)

abbrev pub row_of_sublot : Sublot → Row
row_of_sublot = sublot_columns.stored

unfoldable pub sublot_from : Row → Option Sublot
sublot_from = read_row sublot_columns

-- the columns of a movement, whatever its kind asks of them
abbrev pub booked_columns : Columns BookedRow
booked_columns = made (λ (seq, (line, (kind_code, (lot, (sub, (lot2, (sub2, (batch, (amount, (at, (by, note))))))))))). record {
  seq = seq;
  line = line;
  kind_code = kind_code;
  lot = lot;
  sub = sub;
  lot2 = lot2;
  sub2 = sub2;
  batch = batch;
  amount = amount;
  at = at;
  by = by;
  note = note;
})
    (λ r. (r.seq, (r.line, (r.kind_code, (r.lot, (r.sub, (r.lot2, (r.sub2, (r.batch, (r.amount, (r.at, (r.by, r.note))))))))))))
    (one (codes "seq") seqs ⊗ one (codes "line") line_numbers ⊗ one (codes "kind") movement_kind_codes ⊗ one (codes "lot") ids ⊗ one (codes "sub") sublot_numbers ⊗ one (codes "lot2") ids_or_none ⊗ one (codes "sub2") sublot_numbers_or_none ⊗ one (codes "batch") ids_or_none ⊗ one (codes "amount") amounts ⊗ one (codes "at") moments ⊗ one (codes "by_who") texts ⊗ one (codes "note") texts)

abbrev pub row_of_booked : BookedRow → Row
row_of_booked = booked_columns.stored

-- the columns of the row that books a movement
abbrev pub row_of_movement : Movement → Row
row_of_movement m = row_of_booked (booked_of m)

unfoldable pub booked_from : Row → Option BookedRow
booked_from = read_row booked_columns

-- the movement that the row books, where its columns are those of its kind
unfoldable pub movement_read : Row → Option Movement
movement_read row = do
  booked ← booked_from row
  movement_from booked

abbrev pub hold_columns : Columns Hold
hold_columns = made (λ (lot, (id, (at, (by, note)))). record { lot = lot; id = id; at = at; by = by; note = note })
    (λ h. (h.lot, (h.id, (h.at, (h.by, h.note)))))
    (one (codes "lot") ids ⊗ one (codes "id") ids ⊗ one (codes "at") moments ⊗ one (codes "by_who") texts ⊗ one (codes "note") texts)

abbrev pub row_of_hold : Hold → Row
row_of_hold = hold_columns.stored

unfoldable pub hold_from : Row → Option Hold
hold_from = read_row hold_columns

-- ---- edges

abbrev pub edge_columns : Columns EdgeRow
edge_columns = made (λ (kind, (from, to)). record { kind = kind; from = from; to = to })
    (λ e. (e.kind, (e.from, e.to)))
    (one (codes "kind") edge_kinds ⊗ one (codes "a") ids ⊗ one (codes "b") ids)

abbrev pub row_of_edge : EdgeRow → Row
row_of_edge = edge_columns.stored

unfoldable pub edge_from : Row → Option EdgeRow
edge_from = read_row edge_columns

-- ---- receipts

abbrev pub receipt_columns : Columns Receipt
receipt_columns = made (λ (reference, (seq, content)). record { reference = reference; seq = seq; content = content })
    (λ r. (r.reference, (r.seq, r.content)))
    (one (codes "id") ids ⊗ one (codes "seq") seqs ⊗ one (codes "content") contents)

abbrev pub row_of_receipt : Receipt → Row
row_of_receipt = receipt_columns.stored

unfoldable pub receipt_from : Row → Option Receipt
receipt_from = read_row receipt_columns

-- ---- recalls and marks

-- the columns of a recall, whatever its state asks of those of its lifting
abbrev pub stated_columns : Columns StatedRecall
stated_columns = made (λ (id, (lot, (state, (at, (by, (note, (lift_at, (lift_by, lift_note)))))))). record {
  id = id;
  lot = lot;
  state = state;
  at = at;
  by = by;
  note = note;
  lift_at = lift_at;
  lift_by = lift_by;
  lift_note = lift_note;
})
    (λ r. (r.id, (r.lot, (r.state, (r.at, (r.by, (r.note, (r.lift_at, (r.lift_by, r.lift_note)))))))))
    (one (codes "id") ids ⊗ one (codes "lot") ids ⊗ one (codes "state") recall_states ⊗ one (codes "at") moments ⊗ one (codes "by_who") texts ⊗ one (codes "note") texts ⊗ one (codes "lift_at") moments_or_none ⊗ one (codes "lift_by") texts_or_none ⊗ one (codes "lift_note") texts_or_none)

abbrev pub row_of_stated : StatedRecall → Row
row_of_stated = stated_columns.stored

-- the columns of the row of a recall
abbrev pub row_of_recall : Recall → Row
row_of_recall r = row_of_stated (stated_of r)

unfoldable pub stated_from : Row → Option StatedRecall
stated_from = read_row stated_columns

-- the recall that is decoded from the row, where the columns of its lifting are those of its state
unfoldable pub recall_read : Row → Option Recall
recall_read row = do
  stated ← stated_from row
  recall_from stated

abbrev pub mark_columns : Columns Mark
mark_columns = made (λ (recall, (kind, id)). record { recall = recall; kind = kind; id = id })
    (λ m. (m.recall, (m.kind, m.id)))
    (one (codes "recall") ids ⊗ one (codes "kind") mark_kinds ⊗ one (codes "id") ids)

abbrev pub row_of_mark : Mark → Row
row_of_mark = mark_columns.stored

unfoldable pub mark_from : Row → Option Mark
mark_from = read_row mark_columns
