-- Values and lists are read again from the lines of a content.
use Rattle.std.proofs.Common.{◌≡◌, ◌∙◌, ◌<◌, ◌^◌, ℕ, false, List, [], ◌∷◌, cond, codes, decimal, refl, ap, arith, if◌then◌else◌, IsTrue, flat_map}
use Rattle.std.specs.List.{AllByRecursion}
use Rattle.std.specs.Str.Parse.{digits_value}
use Rattle.std.proofs.lemmas.Fmt.{decimal_is_IsNumeral}
use Rattle.std.proofs.lemmas.List.Elements.{recursion_from_All}
use Rattle.std.proofs.lemmas.Bool.Decides.{nat_tests}
use Rattle.plant_base.specs.{same, is_amount, is_moment, word_name, HasPartValues, HasLineValues, HasOrderValues, part_lines, recipe_line_lines, order_lines, HasPartNumbers, HasOrderNumbers}
use Rattle.plant_base.specs.declared.states.Word.{Word}
use Rattle.plant_base.specs.declared.states.Word.TheVariants as word
use Rattle.plant_base.specs.declared.rows.RecipeLine.{RecipeLine}
use Rattle.plant_base.specs.declared.rows.RecipeLine.TheVariants as line
use Rattle.plant_base.specs.declared.rows.OrderRow.{OrderRow}
use Rattle.plant_base.specs.ContentLines.{list_lines, HasMergeNumbers, HasAddRecipeNumbers, HasImportOrdersNumbers}
use Rattle.plant_base.specs.WellFormedCommands.{HasMergeValues, HasAddRecipeValues, HasImportOrdersValues}
use Rattle.plant_base.specs.declared.command.Part.{Part}
use Rattle.plant_base.specs.declared.command.Merge.{Merge}
use Rattle.plant_base.specs.declared.command.AddRecipe.{AddRecipe}
use Rattle.plant_base.specs.declared.command.ImportOrders.{ImportOrders}
use Rattle.plant_base.specs.declared.commands.Command.{Command}
use Rattle.plant_base.specs.declared.commands.Command.TheVariants as body

-- ---- numbers and words

pub number_in : List ℕ → ℕ
number_in = digits_value 10

back : (n : ℕ) → n < 2 ^ 64 → number_in (decimal n) ≡ n
unfolding number_in
back n h = (decimal_is_IsNumeral n h).1

pub small_amount : (n : ℕ) → IsTrue (is_amount n) → n < 2 ^ 64
small_amount n h = grind (arith, nat_tests)

pub small_moment : (n : ℕ) → IsTrue (is_moment n) → n < 2 ^ 64
small_moment n h = grind (arith, nat_tests)

pub amount_back : (n : ℕ) → IsTrue (is_amount n) → number_in (decimal n) ≡ n
amount_back n h = back n (small_amount n h)

pub short_back : (n : ℕ) → n < 2 ^ 16 → number_in (decimal n) ≡ n
short_back n h = back n (omega arith)

pub byte_back : (n : ℕ) → n < 2 ^ 8 → number_in (decimal n) ≡ n
byte_back n h = back n (omega arith)

pub word_in : List ℕ → Word
word_in w =
    if same w (codes "start") then word.Start else (
    if same w (codes "stop") then word.Stop else (
    if same w (codes "hold") then word.Hold else (
    if same w (codes "restart") then word.Restart else (
    if same w (codes "abort") then word.Abort else (
    if same w (codes "reset") then word.Reset else (
    if same w (codes "pause") then word.Pause else (
    if same w (codes "resume") then word.Resume else word.Done)))))))

pub word_back : (w : Word) → word_in (word_name w) ≡ w
unfolding word_in
word_back word.Start = refl
word_back _ = refl

-- ---- lists

parts_in : List (List ℕ) → List Part
parts_in [] = []
parts_in (lot ∷ []) = []
parts_in (lot ∷ sub ∷ []) = []
parts_in (lot ∷ sub ∷ amount ∷ more) = record { lot = lot; sub = number_in sub; amount = number_in amount } ∷ parts_in more

parts_back : (ps : List Part) → AllByRecursion HasPartValues ps → AllByRecursion HasPartNumbers ps → parts_in (flat_map part_lines ps) ≡ ps
unfolding parts_in
parts_back [] v n = refl
parts_back (p ∷ ps) v n = λ i. record { lot = p.lot; sub = short_back p.sub n.0 i; amount = amount_back p.amount v.0.1 i } ∷ parts_back ps v.1 n.1 i

orders_in : List (List ℕ) → List OrderRow
orders_in (order ∷ recipe ∷ version ∷ size ∷ due ∷ priority ∷ more) =
    record { order = order; recipe = recipe; version = number_in version; size = number_in size; due = due; priority = number_in priority } ∷ orders_in more
orders_in _ = []

orders_back : (os : List OrderRow) → AllByRecursion HasOrderValues os → AllByRecursion HasOrderNumbers os → orders_in (flat_map order_lines os) ≡ os
unfolding orders_in
orders_back [] v n = refl
orders_back (o ∷ os) v n =
    λ i. record { order = o.order; recipe = o.recipe; version = short_back o.version n.0.0 i; size = amount_back o.size v.0.size i; due = o.due; priority = byte_back o.priority n.0.1 i } ∷ orders_back os v.1 n.1 i

-- a line of a recipe that isn't a phase takes three lines, a phase four
three_in : List ℕ → List ℕ → List ℕ → RecipeLine
three_in kind a b =
    if same kind (codes "in") then line.In a (number_in b) else (
    if same kind (codes "out") then line.Out a (number_in b) else line.Parameter a b)

recipe_in : List (List ℕ) → List RecipeLine
recipe_in (kind ∷ a ∷ b ∷ []) = three_in kind a b ∷ []
recipe_in (kind ∷ a ∷ b ∷ c ∷ more) = cond (same kind (codes "phase")) (line.Phase a b c ∷ recipe_in more) (three_in kind a b ∷ recipe_in (c ∷ more))
recipe_in _ = []

three_more : (kind a b : List ℕ) (more : List (List ℕ)) → same kind (codes "phase") ≡ false → recipe_in (kind ∷ a ∷ b ∷ more) ≡ three_in kind a b ∷ recipe_in more
unfolding recipe_in
three_more kind a b [] e = refl
three_more kind a b (c ∷ more) e = ap (λ t. cond t (line.Phase a b c ∷ recipe_in more) (three_in kind a b ∷ recipe_in (c ∷ more))) e

recipe_back : (ls : List RecipeLine) → AllByRecursion HasLineValues ls → recipe_in (flat_map recipe_line_lines ls) ≡ ls
unfolding recipe_in three_in
recipe_back [] v = refl
recipe_back (line.In def amount ∷ ls) v = three_more (codes "in") def (decimal amount) (flat_map recipe_line_lines ls) refl ∙ (λ i. line.In def (amount_back amount v.0.1 i) ∷ recipe_back ls v.1 i)
recipe_back (line.Out def amount ∷ ls) v = three_more (codes "out") def (decimal amount) (flat_map recipe_line_lines ls) refl ∙ (λ i. line.Out def (amount_back amount v.0.1 i) ∷ recipe_back ls v.1 i)
recipe_back (line.Parameter name value ∷ ls) v = three_more (codes "par") name value (flat_map recipe_line_lines ls) refl ∙ (λ i. line.Parameter name value ∷ recipe_back ls v.1 i)
recipe_back (line.Phase u o p ∷ ls) v = λ i. line.Phase u o p ∷ recipe_back ls v.1 i

-- ---- commands: what comes after the word

-- where a text isn't that of a command
pub nothing : Command
nothing = body.Settle (record { batch = [] })

pub merge_in : List (List ℕ) → Command
merge_in (new ∷ place ∷ count ∷ parts) = body.Merge (record { new = new; place = place; parts = parts_in parts })
merge_in _ = nothing

pub add_recipe_in : List (List ℕ) → Command
add_recipe_in (recipe ∷ version ∷ product ∷ base ∷ least ∷ greatest ∷ title ∷ count ∷ lines) = body.AddRecipe (record {
  header = record { recipe = recipe; version = number_in version; product = product; base = number_in base; least = number_in least; greatest = number_in greatest; title = title };
  lines = recipe_in lines;
})
add_recipe_in _ = nothing

pub import_orders_in : List (List ℕ) → Command
import_orders_in (count ∷ orders) = body.ImportOrders (record { orders = orders_in orders })
import_orders_in _ = nothing

-- ---- commands that have a list are the same

pub merge_back : (c : Merge) → HasMergeValues c → HasMergeNumbers c → merge_in (c.new ∷ c.place ∷ list_lines part_lines c.parts) ≡ body.Merge c
unfolding merge_in
merge_back c v n = λ i. body.Merge (record { new = c.new; place = c.place; parts = parts_back c.parts (recursion_from_All HasPartValues c.parts v.2) (recursion_from_All HasPartNumbers c.parts n) i })

pub add_recipe_back : (c : AddRecipe) → HasAddRecipeValues c → HasAddRecipeNumbers c → add_recipe_in (c.header.recipe ∷ decimal c.header.version ∷ c.header.product ∷ decimal c.header.base ∷ decimal c.header.least ∷ decimal c.header.greatest ∷ c.header.title ∷ list_lines recipe_line_lines c.lines) ≡ body.AddRecipe c
unfolding add_recipe_in
add_recipe_back c v n = λ i. body.AddRecipe (record {
  header = record {
    recipe = c.header.recipe;
    version = short_back c.header.version n i;
    product = c.header.product;
    base = amount_back c.header.base v.0.base i;
    least = amount_back c.header.least v.0.least i;
    greatest = amount_back c.header.greatest v.0.greatest i;
    title = c.header.title;
  };
  lines = recipe_back c.lines (recursion_from_All HasLineValues c.lines v.1) i;
})

pub import_orders_back : (c : ImportOrders) → HasImportOrdersValues c → HasImportOrdersNumbers c → import_orders_in (list_lines order_lines c.orders) ≡ body.ImportOrders c
unfolding import_orders_in
import_orders_back c v n = λ i. body.ImportOrders (record { orders = orders_back c.orders (recursion_from_All HasOrderValues c.orders v) (recursion_from_All HasOrderNumbers c.orders n) i })
