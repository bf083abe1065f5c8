-- What a run holds of the line that is coming, and the lines and entries that come out of bytes.
use Rattle.std.specs.Prelude.{ℕ, ◌+◌, ◌==◌, List, [], ◌∷◌, ◌++◌, length, nat_lt, if◌then◌else◌}
use Rattle.std.specs.Str.Lines.{strip_carriage_return}
use Rattle.plant_text.specs.Lines.{longest_line}
use Rattle.plant_text.specs.Session.{Entry, entries}

-- the most bytes of a line that are held: the longest line, its CR, and one byte by which a longer line is recognized
abbrev pub room : ℕ
room = longest_line + 2

-- a byte more, while there is room
abbrev pub held_with : List ℕ → ℕ → List ℕ
held_with held b = if nat_lt (length held) room then held ++ b ∷ [] else held

unfoldable pub held_after : List ℕ → List ℕ → List ℕ
held_after held [] = held
held_after held (b ∷ bs) = if b == 10 then held_after [] bs else held_after (held_with held b) bs

-- the lines that end in the bytes, as they were held, where so much is held of the first
unfoldable pub ended_after : List ℕ → List ℕ → List (List ℕ)
ended_after held [] = []
ended_after held (b ∷ bs) = if b == 10 then strip_carriage_return held ∷ ended_after [] bs else ended_after (held_with held b) bs

abbrev pub entries_after : List ℕ → List ℕ → List Entry
entries_after held bs = entries (ended_after held bs)
