-- How lots and their sublots came to be.
use Rattle.std.specs.Prelude.{◌≡◌, ℕ, ◌≤◌, Bool, true, false, List, [], ◌∷◌, length, map, filter}
use Rattle.std.specs.List.{AllByRecursion}
use Rattle.plant_base.specs.{same, Lot, Movement, MovementKind, Place}
use Rattle.plant_base.specs.declared.rows.MovementKind.TheVariants as kind
use Rattle.plant_stock.specs.{is_division, entries}
use Rattle.plant_invariant.specs.Bookings.{AreCounted}

-- ---- numbers of sublots

-- the numbers of a lot's sublots
abbrev pub numbers_among : List Place → List ℕ → List ℕ
numbers_among places lot = map (λ p. p.number) (filter (λ p. same p.lot lot) places)

-- 0, or 0 and 1, and so on, without a gap
abbrev pub AreFromZero : List ℕ → Type 0
AreFromZero numbers = (1 ≤ length numbers) × AreCounted 0 numbers

-- ---- what entered a sublot

-- both make a lot, and by one kind of movement
abbrev pub are_one_birth : MovementKind → MovementKind → Bool
are_one_birth kind.Received kind.Received = true
are_one_birth (kind.Produced a) (kind.Produced b) = true
are_one_birth (kind.Split a) (kind.Split b) = true
are_one_birth (kind.Merged a) (kind.Merged b) = true
are_one_birth _ _ = false

-- there are some, of one command, and all of one kind that makes a lot
abbrev pub IsBirth : List Movement → Type 0
IsBirth [] = ⊥
IsBirth (m ∷ ms) = AllByRecursion (λ x. (x.seq ≡ m.seq) × (are_one_birth m.kind x.kind ≡ true)) (m ∷ ms)

-- it is one, and a division
abbrev pub IsDivision : List Movement → Type 0
IsDivision [] = ⊥
IsDivision (m ∷ []) = is_division m.kind ≡ true
IsDivision (m ∷ n ∷ ms) = ⊥

-- sublot 0 came to be with its lot, each other sublot by one division
pub record IsBorn (ms : List Movement) (p : Place) : Type 0 where
  pub whole : p.number ≡ 0 → IsBirth (entries ms p.lot p.number)
  pub divided : 1 ≤ p.number → IsDivision (entries ms p.lot p.number)

-- each lot has its sublots, and each sublot came to be
pub record AreBorn (lots : List Lot) (places : List Place) (ms : List Movement) : Type 0 where
  pub numbered : AllByRecursion (λ l. AreFromZero (numbers_among places l.id)) lots
  pub each : AllByRecursion (IsBorn ms) places
