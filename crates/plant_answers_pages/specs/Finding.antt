-- The ids that begin with another, of each kind of thing.
use Rattle.std.specs.Prelude.{◌≡◌, ℕ, Bool, true, not, if◌then◌else◌, List, [], ◌∷◌, Option, Some, None, filter, map, ⊤}
use Rattle.plant_base.specs.{State, same, Recipe}
use Rattle.plant_questions.specs.{begins_with, first_begun, recipes_after, FoundIds}

-- these ids, each once, at its first place
abbrev pub each_id_once : List (List ℕ) → List (List ℕ)
each_id_once [] = []
each_id_once (id ∷ ids) = id ∷ filter (λ other. not (same id other)) (each_id_once ids)

-- of each kind of thing the first ids that begin so, ascending
abbrev pub found_ids : State → List ℕ → FoundIds
found_ids s beginning = record {
  batches = first_begun beginning (map (λ b. b.id) s.batches);
  classes = first_begun beginning (map (λ c. c.id) s.classes);
  definitions = first_begun beginning (map (λ d. d.id) s.definitions);
  lots = first_begun beginning (map (λ l. l.id) s.lots);
  orders = first_begun beginning (map (λ j. j.order.order) s.jobs);
  recalls = first_begun beginning (map (λ r. r.id) s.recalls);
  recipes = first_begun beginning (each_id_once (map (λ r. r.header.recipe) s.recipes));
}

-- ---- one after the other

-- the id itself before others, where it is there
abbrev pub own_first : Bool → List ℕ → List (List ℕ) → List (List ℕ)
own_first there id ids = if there then id ∷ ids else ids

-- the recipes after a cursor that begin so; none where there is no cursor any more
abbrev pub recipes_left : State → List ℕ → Option (List ℕ) → List (List ℕ)
recipes_left s beginning None = []
recipes_left s beginning (Some cursor) = filter (begins_with beginning) (each_id_once (map (λ r. r.header.recipe) (recipes_after s (Some cursor))))

-- the recipe of a row, where it begins so
abbrev pub id_if_begun : List ℕ → Recipe → Option (List ℕ)
id_if_begun beginning r = if begins_with beginning r.header.recipe then Some r.header.recipe else None

-- the cursor, where there is one, begins so
abbrev pub IsWithin : List ℕ → Option (List ℕ) → Type 0
IsWithin beginning None = ⊤
IsWithin beginning (Some cursor) = begins_with beginning cursor ≡ true
