-- The numbers of movements and events.
use Rattle.std.specs.Prelude.{ℕ, ◌+◌, Bool, true, not, ◌&&◌, ◌==◌, nat_le, nat_lt, if◌then◌else◌, List, [], ◌∷◌, Option, Some, None}
use Rattle.std.specs.List.{list_any, list_all}
use Rattle.plant_base.specs.{BatchEvent, Movement}
use Rattle.plant_stock.specs.{comes_from, entries, are_one_merge}

-- the number of an accepted command
abbrev pub is_given : ℕ → ℕ → Bool
is_given greatest seq = nat_le 1 seq && nat_le seq greatest

abbrev pub is_next_part : Movement → Movement → Bool
is_next_part before m = m.line == before.line + 1 && are_one_merge before.kind m.kind

-- line 1 of a command, or the next part of the merge before it
abbrev pub is_line_after : Movement → Movement → Bool
is_line_after before m = if before.seq == m.seq then is_next_part before m else m.line == 1

abbrev pub is_next_line : Option Movement → Movement → Bool
is_next_line None m = m.line == 1
is_next_line (Some before) m = is_line_after before m

abbrev pub are_lines : Option Movement → List Movement → Bool
are_lines before [] = true
are_lines before (m ∷ ms) = is_next_line before m && are_lines (Some m) ms

-- no event has the movement's number
abbrev pub is_apart : List BatchEvent → Movement → Bool
is_apart events m = not (list_any (λ e. e.seq == m.seq) events)

-- each movement that enters the sublot, where one is named, has a lower number
abbrev pub is_entered_before : List Movement → ℕ → Option (List ℕ × ℕ) → Bool
is_entered_before ms seq None = true
is_entered_before ms seq (Some k) = list_all (λ m. nat_lt m.seq seq) (entries ms k.0 k.1)

-- the number was given to no event, and what the movement takes has entered before
unfoldable pub has_right_number : ℕ → List BatchEvent → List Movement → Movement → Bool
has_right_number greatest events ms m =
    is_given greatest m.seq && is_apart events m && is_entered_before ms m.seq (comes_from m.kind m.lot m.sub)

-- of movements by their numbers and lines
abbrev pub are_numbers : ℕ → List BatchEvent → List Movement → Bool
are_numbers greatest events ms =
    are_lines None ms
    && list_all (has_right_number greatest events ms) ms
    && list_all (λ e. is_given greatest e.seq) events
