-- The values of rows that were read obey their rules.
use Rattle.std.proofs.Common.{◌≡◌, subst, ◌≤◌, List, [], ◌∷◌, true, leb-true, Option, Some}
use Rattle.std.specs.List.{AllByRecursion}
use Rattle.sqlite.specs.Order.{Row}
use Rattle.plant_base.specs.{is_id, is_text, is_moment, greatest_seq, greatest_sublot, is_version, HasHeaderValues, HasClassValues, HasDefinitionValues, HasLotValues, HasHoldValues, BatchRow, Header, Job, Meta, Receipt, Recipe, Sublot}
use Rattle.plant_invariant.specs.{HasMasterValues, HasControlValues, HasEventValues}
use Rattle.plant_view.specs.{HasBatchValues, HasValidOrder}
use Rattle.plant_tables.specs.{Loaded, Rows, rows_from}
use Rattle.plant_tables_columns.specs.{all_from, only_meta}
use Rattle.plant_tables_columns.proofs.OptionalValues.{bound, some_same}
use Rattle.plant_tables_columns.proofs.TableLaws.{HasBookedColumns, HasStatedColumns}
use Rattle.plant_tables_columns.proofs.RowLaws.{meta_reads, class_reads, definition_reads, recipe_reads, master_line_reads, job_reads, batch_reads, control_line_reads, event_reads, lot_reads, sublot_reads, booked_reads, hold_reads, receipt_reads, stated_reads}
use Rattle.plant_tables_columns.proofs.StoredAndRead.{Reads}
use Rattle.plant_tables.proofs.EachTable.{rows_back}

-- ---- in the words of valid states

pub record HasMetaValues (m : Meta) : Type 0 where
  pub seq : m.position.seq ≤ greatest_seq
  pub at : is_moment m.position.at ≡ true

-- the header of a recipe, with its version
pub record IsValidHeader (h : Header) : Type 0 where
  pub version : is_version h.version ≡ true
  pub values : HasHeaderValues h

pub record HasSublotValues (s : Sublot) : Type 0 where
  pub lot : is_id s.lot ≡ true
  pub number : s.number ≤ greatest_sublot
  pub place : is_text s.place ≡ true

only_meta_valid : (rows : List Row) (m : Meta) → only_meta rows ≡ Some m → HasMetaValues m
unfolding only_meta
only_meta_valid [] m h = absurd (cc)
only_meta_valid (row ∷ []) m h = let valid = meta_reads.keeps row m h in record { seq = leb-true m.position.seq greatest_seq valid.seq; at = valid.at }
only_meta_valid (row ∷ other ∷ rows) m h = absurd (cc)

-- ---- all rows of a table

all_valid : {R : Type 0} {row_from : Row → Option R} {stored : R → Row} {valid whole : R → Type 0} (P : R → Type 0) → Reads row_from stored valid whole → ((r : R) → valid r → P r)
    → (rows : List Row) (rs : List R) → all_from row_from rows ≡ Some rs → AllByRecursion P rs
all_valid {R} {row_from} P laws reported [] rs h = subst (AllByRecursion P) (some_same [] rs h) tt
all_valid {R} {row_from} P laws reported (row ∷ rows) rs h =
    let p1 = bound (row_from row) _ rs h in
    let p2 = bound (all_from row_from rows) _ rs p1.2 in
    subst (AllByRecursion P) (some_same _ rs p2.2) (reported p1.0 (laws.keeps row p1.0 p1.1), all_valid P laws reported rows p2.0 p2.1)

-- the values of rows that were read
pub record HaveValues (r : Rows) : Type 0 where
  pub meta : HasMetaValues r.meta
  pub classes : AllByRecursion HasClassValues r.classes
  pub definitions : AllByRecursion HasDefinitionValues r.definitions
  pub recipes : AllByRecursion (λ (q : Recipe). IsValidHeader q.header) r.recipes
  pub master_lines : AllByRecursion HasMasterValues r.master_lines
  pub jobs : AllByRecursion (λ (j : Job). HasValidOrder j.order) r.jobs
  pub batches : AllByRecursion (λ (b : BatchRow). HasBatchValues b.batch) r.batches
  pub control_lines : AllByRecursion HasControlValues r.control_lines
  pub events : AllByRecursion HasEventValues r.events
  pub lots : AllByRecursion HasLotValues r.lots
  pub sublots : AllByRecursion HasSublotValues r.sublots
  pub movements : AllByRecursion HasBookedColumns r.movements
  pub holds : AllByRecursion HasHoldValues r.holds
  pub receipts : AllByRecursion (λ (q : Receipt). is_id q.reference ≡ true) r.receipts
  pub recalls : AllByRecursion HasStatedColumns r.recalls

pub have_values : (x : Loaded) (r : Rows) → rows_from x ≡ Some r → HaveValues r
have_values x r h =
    let read = rows_back x r h in
    record {
      meta = only_meta_valid _ r.meta read.meta;
      classes = all_valid HasClassValues class_reads (λ r h. h) _ r.classes read.classes;
      definitions = all_valid HasDefinitionValues definition_reads (λ r h. h) _ r.definitions read.definitions;
      recipes = all_valid (λ (q : Recipe). IsValidHeader q.header) recipe_reads (λ r h. record { version = h.version; values = h.header }) _ r.recipes read.recipes;
      master_lines = all_valid HasMasterValues master_line_reads (λ r h. record { recipe = h.recipe; version = h.version; line = h.line }) _ r.master_lines read.master_lines;
      jobs = all_valid (λ (j : Job). HasValidOrder j.order) job_reads (λ r h. h) _ r.jobs read.jobs;
      batches = all_valid (λ (b : BatchRow). HasBatchValues b.batch) batch_reads (λ r h. h.batch) _ r.batches read.batches;
      control_lines = all_valid HasControlValues control_line_reads (λ r h. record { batch = h.batch; line = h.line }) _ r.control_lines read.control_lines;
      events = all_valid HasEventValues event_reads (λ r h. record { batch = h.batch; phase = h.phase; at = h.at; by = h.by; note = h.note }) _ r.events read.events;
      lots = all_valid HasLotValues lot_reads (λ r h. h) _ r.lots read.lots;
      sublots = all_valid HasSublotValues sublot_reads (λ r h. record { lot = h.lot; number = leb-true r.number greatest_sublot h.number; place = h.place }) _ r.sublots read.sublots;
      movements = all_valid HasBookedColumns booked_reads (λ r h. h) _ r.movements read.movements;
      holds = all_valid HasHoldValues hold_reads (λ r h. h) _ r.holds read.holds;
      receipts = all_valid (λ (q : Receipt). is_id q.reference ≡ true) receipt_reads (λ r h. h.reference) _ r.receipts read.receipts;
      recalls = all_valid HasStatedColumns stated_reads (λ r h. h) _ r.recalls read.recalls;
    }
