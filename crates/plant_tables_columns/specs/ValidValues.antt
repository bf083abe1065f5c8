-- Rows whose values obey their rules.
use Rattle.std.specs.Prelude.{◌≡◌, ℕ, true, nat_le, ⊤}
use Rattle.plant_base.specs.{is_content, is_id, is_text, is_amount, is_moment, greatest_amount, greatest_seq, greatest_sublot, is_version, is_phase_number, HasHeaderValues, HasLineValues, BatchEvent, BatchRow, ControlLine, EdgeRow, Job, Mark, MasterLine, Meta, Movement, MovementKind, Receipt, Recipe, Sublot}
use Rattle.plant_base.specs.RowValues.{HasPhaseNumber}
use Rattle.plant_base.specs.declared.rows.MovementKind.TheVariants as kind
use Rattle.plant_recipe.specs.{greatest_attempt}
use Rattle.plant_view.specs.{HasBatchValues, HasValidOrder}
use Rattle.plant_tables_columns.specs.Reading.{is_in, greatest_number}

pub record HasMetaValues (m : Meta) : Type 0 where
  pub schema : is_in 1 greatest_number m.schema ≡ true
  pub seq : nat_le m.position.seq greatest_seq ≡ true
  pub at : is_moment m.position.at ≡ true

pub record HasRecipeValues (r : Recipe) : Type 0 where
  pub header : HasHeaderValues r.header
  pub version : is_version r.header.version ≡ true

-- the number of a line is one that a column of its rows can hold
abbrev pub IsLineNumber : ℕ → Type 0
IsLineNumber n = is_in 1 65535 n ≡ true

pub record HasMasterLineValues (l : MasterLine) : Type 0 where
  pub recipe : is_id l.recipe ≡ true
  pub version : is_version l.version ≡ true
  pub number : IsLineNumber l.number
  pub line : HasLineValues l.line

abbrev pub HasJobValues : Job → Type 0
HasJobValues j = HasValidOrder j.order

pub record HasBatchRowValues (b : BatchRow) : Type 0 where
  pub batch : HasBatchValues b.batch
  pub attempt : is_in 1 greatest_attempt b.attempt ≡ true
  pub next : is_phase_number b.next ≡ true

pub record HasControlLineValues (l : ControlLine) : Type 0 where
  pub batch : is_id l.batch ≡ true
  pub number : IsLineNumber l.number
  pub line : HasLineValues l.line

pub record HasEventRowValues (e : BatchEvent) : Type 0 where
  pub seq : nat_le e.seq greatest_seq ≡ true
  pub batch : is_id e.batch ≡ true
  pub phase : HasPhaseNumber e.event
  pub at : is_moment e.at ≡ true
  pub by : is_text e.by ≡ true
  pub note : is_text e.note ≡ true

pub record HasSublotValues (s : Sublot) : Type 0 where
  pub lot : is_id s.lot ≡ true
  pub number : nat_le s.number greatest_sublot ≡ true
  pub place : is_text s.place ≡ true
  pub stock : nat_le s.stock greatest_amount ≡ true

-- what the kind names
abbrev pub HasKindRowValues : MovementKind → Type 0
HasKindRowValues kind.Received = ⊤
HasKindRowValues (kind.Consumed batch) = is_id batch ≡ true
HasKindRowValues (kind.Produced batch) = is_id batch ≡ true
HasKindRowValues kind.Scrapped = ⊤
HasKindRowValues (kind.Divided to) = nat_le to greatest_sublot ≡ true
HasKindRowValues (kind.Split to) = is_id to ≡ true
HasKindRowValues (kind.Merged to) = is_id to ≡ true

pub record HasMovementRowValues (m : Movement) : Type 0 where
  pub seq : nat_le m.seq greatest_seq ≡ true
  pub line : IsLineNumber m.line
  pub kind : HasKindRowValues m.kind
  pub lot : is_id m.lot ≡ true
  pub sub : nat_le m.sub greatest_sublot ≡ true
  pub amount : is_amount m.amount ≡ true
  pub at : is_moment m.at ≡ true
  pub by : is_text m.by ≡ true
  pub note : is_text m.note ≡ true

pub record HasEdgeValues (e : EdgeRow) : Type 0 where
  pub from : is_id e.from ≡ true
  pub to : is_id e.to ≡ true

pub record HasReceiptRowValues (r : Receipt) : Type 0 where
  pub reference : is_id r.reference ≡ true
  pub seq : nat_le r.seq greatest_seq ≡ true
  pub content : is_content r.content ≡ true

pub record HasMarkValues (m : Mark) : Type 0 where
  pub recall : is_id m.recall ≡ true
  pub id : is_id m.id ≡ true
