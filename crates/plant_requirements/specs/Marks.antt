-- Marks that are kept, compared with those of the recalls.
use Rattle.std.specs.Prelude.{◌≡◌, ◌<◌, ℕ, Bool, List, length, Option, Some, None, Vec}
use Rattle.std.specs.Global.{Global}
use Rattle.std.specs.Cmp.Lexicographic.{pointwise}
use Rattle.plant_base.specs.{mark_eq, Mark, Movement, Recall}
use Rattle.plant_trace.specs.{Node}
use Rattle.plant_view.specs.{edges_among, marks}

-- the same rows in the same order
abbrev pub are_same_marks : List Mark → List Mark → Bool
are_same_marks = pointwise mark_eq

-- they are just those of the open recalls on what these reach
abbrev pub are_marks : List Recall → List Movement → List Mark → Bool
are_marks recalls movements rows = are_same_marks rows (marks recalls (edges_among movements))

-- ---- found one recall after the other

-- the marks, and nothing where they are more
abbrev pub AreExpected : List Recall → List (Node × Node) → ℕ → Option (Vec Mark Global) → Type 0
AreExpected recalls pairs most None = most < length (marks recalls pairs)
AreExpected recalls pairs most (Some rows) = rows.items ≡ marks recalls pairs
