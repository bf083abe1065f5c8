-- The states that commands lead to, part by part: each part speaks of its own lists.
use Rattle.std.specs.Prelude.{◌≡◌, ◌==◌, ◌&&◌, ℕ, Bool, ◌≤◌, true, List, Option, Some, None, find, is_some, ⊤}
use Rattle.std.specs.List.{AllByRecursion}
use Rattle.std.specs.List.Sorted.{IsStrictlySortedBy}
use Rattle.plant_base.specs.{greatest_amount, greatest_sublot, State, same, class_order, definition_order, lot_order, place_order, hold_order, recall_order, Batch, BatchEvent, Class, ControlLine, Definition, Header, Hold, Job, Lot, MasterLine, Movement, Place, Recall}
use Rattle.plant_stock.specs.{goes_to, comes_from, entered, left}
use Rattle.plant_view.specs.Conservation.{is_of_lot}
use Rattle.plant_view.specs.Genealogy.{IsConsistentGenealogy}
use Rattle.plant_view.specs.Production.{AreConsistentRecipes, AreConsistentOrders, AreConsistentBatches, AreConsistentRuns, headers_of, orders_of, is_defined}

-- ---- what is there

abbrev pub lot_among : List Lot → List ℕ → Option Lot
lot_among lots id = find (λ l. same l.id id) lots

abbrev pub is_lot_among : List Lot → List ℕ → Bool
is_lot_among lots id = is_some (lot_among lots id)

-- the sublot, where one is named, is one of these
abbrev pub IsPlaceAmong : List Place → Option (List ℕ × ℕ) → Type 0
IsPlaceAmong places None = ⊤
IsPlaceAmong places (Some k) = is_some (find (λ p. same p.lot k.0 && p.number == k.1) places) ≡ true

abbrev pub IsThere : State → Option (List ℕ × ℕ) → Type 0
IsThere s k = IsPlaceAmong s.places k

-- what a movement takes from one sublot and brings to another is of one definition
abbrev pub IsOneMaterialAmong : List Lot → Option (List ℕ × ℕ) → Option (List ℕ × ℕ) → Type 0
IsOneMaterialAmong lots None k = ⊤
IsOneMaterialAmong lots (Some k) None = ⊤
IsOneMaterialAmong lots (Some k) (Some j) = (def : List ℕ) → is_of_lot def (lot_among lots k.0) ≡ is_of_lot def (lot_among lots j.0)

abbrev pub IsOneMaterial : State → Option (List ℕ × ℕ) → Option (List ℕ × ℕ) → Type 0
IsOneMaterial s k j = IsOneMaterialAmong s.lots k j

-- ---- the parts: the rows of each list are in the order of their keys, and none has another's key

-- each definition's class is there, and each lot's definition
pub record IsConsistentCatalogue (cs : List Class) (ds : List Definition) (ls : List Lot) : Type 0 where
  pub classes : IsStrictlySortedBy class_order cs
  pub definitions : IsStrictlySortedBy definition_order ds
  pub classified : AllByRecursion (λ d. is_some (find (λ c. same c.id d.class) cs) ≡ true) ds
  pub defined : AllByRecursion (λ l. is_defined ds l.def ≡ true) ls

-- orders and batches, and what happened to these
pub record IsConsistentProduction (headers : List Header) (rows : List MasterLine) (js : List Job) (bs : List Batch) (cs : List ControlLine) (es : List BatchEvent) : Type 0 where
  pub orders : AreConsistentOrders headers js bs
  pub batches : AreConsistentBatches headers rows (orders_of js) bs cs es
  pub runs : AreConsistentRuns js bs cs es

-- the lot of each sublot is there; the sublots that a movement names are there, and of one definition; no sublot was ever given more than
-- one amount, and no more was taken from it than it was given
pub record IsConsistentStock (ls : List Lot) (ps : List Place) (ms : List Movement) : Type 0 where
  pub lots : IsStrictlySortedBy lot_order ls
  pub places : IsStrictlySortedBy place_order ps
  pub housed : AllByRecursion (λ p. is_lot_among ls p.lot ≡ true) ps
  pub numbered : AllByRecursion (λ p. p.number ≤ greatest_sublot) ps
  pub named : AllByRecursion (λ m. IsPlaceAmong ps (goes_to m.kind m.lot m.sub) × IsPlaceAmong ps (comes_from m.kind m.lot m.sub)) ms
  pub one_material : AllByRecursion (λ m. IsOneMaterialAmong ls (goes_to m.kind m.lot m.sub) (comes_from m.kind m.lot m.sub)) ms
  pub small : (lot : List ℕ) (number : ℕ) → entered ms lot number ≤ greatest_amount
  pub covered : (lot : List ℕ) (number : ℕ) → left ms lot number ≤ entered ms lot number

-- the lot of each hold is there
pub record AreConsistentBars (ls : List Lot) (hs : List Hold) (rs : List Recall) : Type 0 where
  pub holds : IsStrictlySortedBy hold_order hs
  pub placed : AllByRecursion (λ h. is_lot_among ls h.lot ≡ true) hs
  pub recalls : IsStrictlySortedBy recall_order rs

-- ---- the whole

pub record DecisionInvariant (s : State) : Type 0 where
  pub catalogue : IsConsistentCatalogue s.classes s.definitions s.lots
  pub recipes : AreConsistentRecipes s.definitions s.recipes s.master_lines
  pub production : IsConsistentProduction (headers_of s.recipes) s.master_lines s.jobs s.batches s.control_lines s.events
  pub stock : IsConsistentStock s.lots s.places s.movements
  pub genealogy : IsConsistentGenealogy s.batches s.movements
  pub bars : AreConsistentBars s.lots s.holds s.recalls
