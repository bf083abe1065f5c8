-- Master recipes.
use Rattle.std.specs.Prelude.{ℕ, ◌+◌, Bool, true, ◌&&◌, ◌==◌, List, [], ◌∷◌, map}
use Rattle.std.specs.List.{list_any, list_all}
use Rattle.plant_base.specs.{same, Definition, MasterLine, Recipe}
use Rattle.plant_recipe.specs.{is_well_formed}
use Rattle.plant_view.specs.{is_defined, is_known, rows_among, lines_among}

-- the numbers are k, k + 1 and so on
abbrev pub are_numbered : ℕ → List ℕ → Bool
are_numbered k [] = true
are_numbered k (n ∷ ns) = n == k && are_numbered (k + 1) ns

-- the recipe is well formed, its lines are numbered from 1 on, and what it names is there
unfoldable pub is_consistent_recipe : List Definition → List MasterLine → Recipe → Bool
is_consistent_recipe definitions rows r =
    is_well_formed r.header (lines_among rows r.header.recipe r.header.version)
    && are_numbered 1 (map (λ l. l.number) (rows_among rows r.header.recipe r.header.version))
    && is_defined definitions r.header.product
    && list_all (is_known definitions) (lines_among rows r.header.recipe r.header.version)

abbrev pub is_recipe_among : List Recipe → List ℕ → ℕ → Bool
is_recipe_among recipes id version = list_any (λ r. same r.header.recipe id && r.header.version == version) recipes

-- each recipe is whole, and no line is without its recipe
abbrev pub are_recipes : List Definition → List Recipe → List MasterLine → Bool
are_recipes definitions recipes rows =
    list_all (is_consistent_recipe definitions rows) recipes
    && list_all (λ l. is_recipe_among recipes l.recipe l.version) rows
