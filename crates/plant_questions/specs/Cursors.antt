-- Cursors in lists whose rows have keys of two values, and how such a cursor is written.
use Rattle.std.specs.Prelude.{ℕ, Bool, List, length, nat_lt, Option, Some, None, ◌==◌, if◌then◌else◌}
use Rattle.std.specs.List.{before_first, after_first, position_or_len}
use Rattle.plant_questions.specs.declared.cursors.Cursor.{Cursor}

-- what parts the two values
abbrev pub is_dot : ℕ → Bool
is_dot byte = byte == 46

abbrev pub cursor_of : {A B : Type 0} → Option A → Option B → Option (Cursor A B)
cursor_of (Some first) (Some second) = Some (record { first = first; second = second })
cursor_of _ _ = None

-- two values, each written in its way, with a dot between them
abbrev pub cursor_in : {A B : Type 0} → (List ℕ → Option A) → (List ℕ → Option B) → List ℕ → Option (Cursor A B)
cursor_in first second text =
    if nat_lt (position_or_len is_dot text) (length text) then
    cursor_of (first (before_first is_dot text)) (second (after_first is_dot text)) else None
