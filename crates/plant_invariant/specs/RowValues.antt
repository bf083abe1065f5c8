-- The values of the rows obey their rules.
use Rattle.std.specs.Prelude.{◌≡◌, ◌≤◌, true, ⊤}
use Rattle.std.specs.List.{AllByRecursion}
use Rattle.plant_base.specs.{is_id, is_text, is_amount, is_moment, greatest_sublot, greatest_seq, is_version, HasLineValues, HasClassValues, HasDefinitionValues, HasPhaseNumber, HasLotValues, HasHoldValues, State, BatchEvent, ControlLine, MasterLine, Movement, MovementKind, Place}
use Rattle.plant_base.specs.declared.rows.MovementKind.TheVariants as kind

pub record HasMasterValues (l : MasterLine) : Type 0 where
  pub recipe : is_id l.recipe ≡ true
  pub version : is_version l.version ≡ true
  pub line : HasLineValues l.line

pub record HasControlValues (l : ControlLine) : Type 0 where
  pub batch : is_id l.batch ≡ true
  pub line : HasLineValues l.line

pub record HasPlaceValues (p : Place) : Type 0 where
  pub lot : is_id p.lot ≡ true
  pub number : p.number ≤ greatest_sublot
  pub place : is_text p.place ≡ true

pub record HasEventValues (e : BatchEvent) : Type 0 where
  pub batch : is_id e.batch ≡ true
  pub phase : HasPhaseNumber e.event
  pub at : is_moment e.at ≡ true
  pub by : is_text e.by ≡ true
  pub note : is_text e.note ≡ true

-- the id or the sublot number that a kind names
abbrev pub HasKindValues : MovementKind → Type 0
HasKindValues kind.Received = ⊤
HasKindValues (kind.Consumed batch) = is_id batch ≡ true
HasKindValues (kind.Produced batch) = is_id batch ≡ true
HasKindValues kind.Scrapped = ⊤
HasKindValues (kind.Divided to) = to ≤ greatest_sublot
HasKindValues (kind.Split to) = is_id to ≡ true
HasKindValues (kind.Merged to) = is_id to ≡ true

pub record HasMovementValues (m : Movement) : Type 0 where
  pub kind : HasKindValues m.kind
  pub lot : is_id m.lot ≡ true
  pub sub : m.sub ≤ greatest_sublot
  pub amount : is_amount m.amount ≡ true
  pub at : is_moment m.at ≡ true
  pub by : is_text m.by ≡ true
  pub note : is_text m.note ≡ true

-- the values of the rows; the decision invariant has those of recipes, orders and batches
pub record HasRowValues (s : State) : Type 0 where
  pub seq : s.seq ≤ greatest_seq
  pub at : is_moment s.at ≡ true
  pub classes : AllByRecursion HasClassValues s.classes
  pub definitions : AllByRecursion HasDefinitionValues s.definitions
  pub master_lines : AllByRecursion HasMasterValues s.master_lines
  pub control_lines : AllByRecursion HasControlValues s.control_lines
  pub events : AllByRecursion HasEventValues s.events
  pub lots : AllByRecursion HasLotValues s.lots
  pub places : AllByRecursion HasPlaceValues s.places
  pub movements : AllByRecursion HasMovementValues s.movements
  pub holds : AllByRecursion HasHoldValues s.holds
