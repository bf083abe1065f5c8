-- The numbers of movements and events: each command has its own, and its movements are the lines of one booking.
use Rattle.std.specs.Prelude.{◌≡◌, ℕ, ◌+◌, ◌≤◌, ◌<◌, true, false, ◌==◌, List, [], ◌∷◌, length, map, filter, Option, Some, None, ⊤}
use Rattle.std.specs.List.{AllByRecursion}
use Rattle.std.specs.List.Sorted.{IsStrictlySortedBy}
use Rattle.plant_base.specs.{movement_order, event_order, BatchEvent, Movement}
use Rattle.plant_stock.specs.{goes_to, comes_from, is_sublot_key, greatest_parts, are_one_merge, is_one_source}

-- the numbers are k, k + 1 and so on
abbrev pub AreCounted : ℕ → List ℕ → Type 0
AreCounted k [] = ⊤
AreCounted k (n ∷ ns) = (n ≡ k) × AreCounted (k + 1) ns

-- ---- the booking of one command

-- the movements of the command of this number
abbrev pub booked : List Movement → ℕ → List Movement
booked ms seq = filter (λ m. m.seq == seq) ms

-- a line that isn't the only one is of a merge, and all lead to one lot
abbrev pub AreOfOneMerge : List Movement → Type 0
AreOfOneMerge [] = ⊤
AreOfOneMerge (m ∷ ms) = AllByRecursion (λ x. are_one_merge m.kind x.kind ≡ true) ms

-- no two of them name one pair of lot and sublot
abbrev pub AreDistinct : List Movement → Type 0
AreDistinct [] = ⊤
AreDistinct (m ∷ ms) = AllByRecursion (λ x. is_one_source m x ≡ false) ms × AreDistinct ms

-- what one command booked: nothing, one movement, or the parts of a merge
pub record IsBooking (lines : List Movement) : Type 0 where
  pub numbered : AreCounted 1 (map (λ m. m.line) lines)
  pub few : length lines ≤ greatest_parts
  pub merged : AreOfOneMerge lines
  pub distinct : AreDistinct lines

-- ---- one command after the other

-- each movement that enters the sublot, where one is named, has a lower number
abbrev pub IsEnteredBefore : List Movement → ℕ → Option (List ℕ × ℕ) → Type 0
IsEnteredBefore ms seq None = ⊤
IsEnteredBefore ms seq (Some sublot) = AllByRecursion (λ m. is_sublot_key (goes_to m.kind m.lot m.sub) sublot.0 sublot.1 ≡ true → m.seq < seq) ms

-- movements and events are in the order of their numbers, which were all given; no number is that of a movement and
-- of an event; the movements of each number are a booking; and a sublot is entered before anything is taken from it
pub record IsNumbered (seq : ℕ) (ms : List Movement) (es : List BatchEvent) : Type 0 where
  pub movements : IsStrictlySortedBy movement_order ms
  pub events : IsStrictlySortedBy event_order es
  pub movements_given : AllByRecursion (λ m. (1 ≤ m.seq) × (m.seq ≤ seq)) ms
  pub events_given : AllByRecursion (λ e. (1 ≤ e.seq) × (e.seq ≤ seq)) es
  pub apart : AllByRecursion (λ m. AllByRecursion (λ e. (m.seq == e.seq) ≡ false) es) ms
  pub bookings : (number : ℕ) → IsBooking (booked ms number)
  pub entered_before : AllByRecursion (λ m. IsEnteredBefore ms m.seq (comes_from m.kind m.lot m.sub)) ms
