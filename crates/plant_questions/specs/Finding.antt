-- The ids that begin with another.
use Rattle.std.specs.Prelude.{ℕ, Bool, List, filter, nat_eq, take}
use Rattle.std.specs.List.{starts_with}

-- no more ids of a kind are found
abbrev pub most_found : ℕ
most_found = 20

-- the id begins with this one, or is it
abbrev pub begins_with : List ℕ → List ℕ → Bool
begins_with beginning id = starts_with nat_eq id beginning

-- the first of those that begin so
abbrev pub first_begun : List ℕ → List (List ℕ) → List (List ℕ)
first_begun beginning ids = take most_found (filter (begins_with beginning) ids)
