-- The moments of movements, events, batches and holds.
use Rattle.std.specs.Prelude.{ℕ, Bool, true, not, ◌&&◌, ◌||◌, nat_le, nat_lt, List, [], ◌∷◌, ◌++◌, map}
use Rattle.std.specs.List.{list_all}
use Rattle.plant_base.specs.{BatchEvent, BatchRow, Hold, Movement}

-- the number and the moment of a row
abbrev pub row_mark_of : Movement → ℕ × ℕ
row_mark_of m = (m.seq, m.at)

abbrev pub row_mark_of_event : BatchEvent → ℕ × ℕ
row_mark_of_event e = (e.seq, e.at)

abbrev pub row_marks : List Movement → List BatchEvent → List (ℕ × ℕ)
row_marks ms es = map row_mark_of ms ++ map row_mark_of_event es

-- a row of a higher number isn't earlier
abbrev pub is_no_later : ℕ × ℕ → ℕ × ℕ → Bool
is_no_later a b = not (nat_lt a.0 b.0) || nat_le a.1 b.1

-- moments don't fall as the numbers rise
abbrev pub never_fall : List (ℕ × ℕ) → Bool
never_fall ms = list_all (λ a. list_all (is_no_later a) ms) ms

-- none is later than the desk's
abbrev pub are_by : ℕ → List Movement → List BatchEvent → List BatchRow → List Hold → Bool
are_by at ms es batches holds =
    list_all (λ m. nat_le m.at at) ms
    && list_all (λ e. nat_le e.at at) es
    && list_all (λ b. nat_le b.batch.at at) batches
    && list_all (λ h. nat_le h.at at) holds

abbrev pub are_times : ℕ → List Movement → List BatchEvent → List BatchRow → List Hold → Bool
are_times at ms es batches holds = are_by at ms es batches holds && never_fall (row_marks ms es)

-- ---- in the order of the numbers

-- no moment falls below the one before it
abbrev pub rises : ℕ → List (ℕ × ℕ) → Bool
rises latest [] = true
rises latest (m ∷ ms) = nat_le latest m.1 && rises m.1 ms
