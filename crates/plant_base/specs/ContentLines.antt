-- The lines that a content has of lists, and the room that the numbers of a list have.
use Rattle.std.specs.Prelude.{◌^◌, ◌<◌, ℕ, List, [], ◌∷◌, ◌++◌, length, codes, decimal, All, flat_map}
use Rattle.plant_base.specs.declared.rows.RecipeLine.{RecipeLine}
use Rattle.plant_base.specs.declared.rows.RecipeLine.TheVariants as line
use Rattle.plant_base.specs.declared.rows.OrderRow.{OrderRow}
use Rattle.plant_base.specs.declared.command.Part.{Part}
use Rattle.plant_base.specs.declared.command.Merge.{Merge}
use Rattle.plant_base.specs.declared.command.AddRecipe.{AddRecipe}
use Rattle.plant_base.specs.declared.command.ImportOrders.{ImportOrders}

-- ---- lines

-- each line with its LF
abbrev pub lines_text : List (List ℕ) → List ℕ
lines_text [] = []
lines_text (line ∷ more) = line ++ 10 ∷ lines_text more

-- a list is its length, and then its items
abbrev pub list_lines : {A : Type 0} → (A → List (List ℕ)) → List A → List (List ℕ)
list_lines lines_of items = decimal (length items) ∷ flat_map lines_of items

-- ---- the items of lists

abbrev pub part_lines : Part → List (List ℕ)
part_lines p = p.lot ∷ decimal p.sub ∷ decimal p.amount ∷ []

abbrev pub recipe_line_lines : RecipeLine → List (List ℕ)
recipe_line_lines (line.In def amount) = codes "in" ∷ def ∷ decimal amount ∷ []
recipe_line_lines (line.Out def amount) = codes "out" ∷ def ∷ decimal amount ∷ []
recipe_line_lines (line.Parameter name value) = codes "par" ∷ name ∷ value ∷ []
recipe_line_lines (line.Phase unit_procedure operation phase) = codes "phase" ∷ unit_procedure ∷ operation ∷ phase ∷ []

abbrev pub order_lines : OrderRow → List (List ℕ)
order_lines o = o.order ∷ o.recipe ∷ decimal o.version ∷ decimal o.size ∷ o.due ∷ decimal o.priority ∷ []

-- ---- commands with lists: the word, and then the fields

abbrev pub merge_lines : Merge → List (List ℕ)
merge_lines c = codes "merge" ∷ c.new ∷ c.place ∷ list_lines part_lines c.parts

abbrev pub add_recipe_lines : AddRecipe → List (List ℕ)
add_recipe_lines c = codes "add_recipe" ∷ c.header.recipe ∷ decimal c.header.version ∷ c.header.product ∷ decimal c.header.base
    ∷ decimal c.header.least ∷ decimal c.header.greatest ∷ c.header.title ∷ list_lines recipe_line_lines c.lines

abbrev pub import_orders_lines : ImportOrders → List (List ℕ)
import_orders_lines c = codes "import_orders" ∷ list_lines order_lines c.orders

-- ---- room for numbers

abbrev pub HasPartNumbers : Part → Type 0
HasPartNumbers p = p.sub < 2 ^ 16

abbrev pub HasOrderNumbers : OrderRow → Type 0
HasOrderNumbers o = (o.version < 2 ^ 16) × (o.priority < 2 ^ 8)

abbrev pub HasMergeNumbers : Merge → Type 0
HasMergeNumbers c = All HasPartNumbers c.parts

abbrev pub HasAddRecipeNumbers : AddRecipe → Type 0
HasAddRecipeNumbers c = c.header.version < 2 ^ 16

abbrev pub HasImportOrdersNumbers : ImportOrders → Type 0
HasImportOrdersNumbers c = All HasOrderNumbers c.orders
