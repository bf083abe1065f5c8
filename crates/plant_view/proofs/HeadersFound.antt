-- The headers of recipes that are looked up.
use Rattle.std.proofs.Common.{◌≡◌, ℕ, ◌==◌, ◌&&◌, List, Option, Some, None, refl, find, option_map}
use Rattle.plant_base.specs.{same, Header, Recipe}
use Rattle.plant_view.specs.{headers_of, header_among, is_size_of_some, is_size_of_recipe}
use Rattle.plant_view.proofs.RowsInTurn.{find_mapped}

-- a lookup among headers is one among recipes
pub header_found : (recipes : List Recipe) (id : List ℕ) (version : ℕ) → header_among (headers_of recipes) id version ≡ option_map (λ r. r.header) (find (λ r. same r.header.recipe id && r.header.version == version) recipes)
header_found recipes id version = find_mapped (λ (h : Header). same h.recipe id && h.version == version) (λ (r : Recipe). r.header) recipes

pub size_of_recipe : (o : Option Recipe) (size : ℕ) → is_size_of_some (option_map (λ r. r.header) o) size ≡ is_size_of_recipe o size
size_of_recipe None size = refl
size_of_recipe (Some r) size = refl
