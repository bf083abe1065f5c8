-- No value and no list has a line with an LF.
use Rattle.std.proofs.Common.{◌≡◌, ◌/◌, ◌%◌, ◌<◌, ℕ, zero, suc, Bool, true, false, List, [], ◌∷◌, length, decimal, mod-lt, refl, arith, ◌&&◌, ◌==◌, IsTrue, if◌then◌else◌, flat_map}
use Rattle.std.specs.List.{list_all, AllByRecursion}
use Rattle.std.specs.Fmt.{digit_glyph, digits_onto, digits}
use Rattle.std.proofs.ByRecursion.{All-append}
use Rattle.std.proofs.lemmas.List.Elements.{recursion_from_All}
use Rattle.std.proofs.lemmas.Bool.Decides.{nat_tests}
use Rattle.plant_base.specs.{is_id_byte, is_text_byte, is_unit_byte, is_id, is_text, is_unit, is_due_byte, is_due, is_yes, due_day_of, word_name, HasPartValues, HasLineValues, HasOrderValues, part_lines, recipe_line_lines, order_lines}
use Rattle.plant_base.proofs.LinesRoundTrip.{is_line, both}
use Rattle.plant_base.specs.declared.states.Word.{Word}
use Rattle.plant_base.specs.declared.states.Word.TheVariants as word
use Rattle.plant_base.specs.declared.rows.RecipeLine.{RecipeLine}
use Rattle.plant_base.specs.declared.rows.RecipeLine.TheVariants as line
use Rattle.plant_base.specs.declared.rows.OrderRow.{OrderRow}
use Rattle.plant_base.specs.ContentLines.{merge_lines, add_recipe_lines, import_orders_lines}
use Rattle.plant_base.specs.WellFormedCommands.{HasMergeValues, HasAddRecipeValues, HasImportOrdersValues}
use Rattle.plant_base.specs.declared.command.Part.{Part}
use Rattle.plant_base.specs.declared.command.Merge.{Merge}
use Rattle.plant_base.specs.declared.command.AddRecipe.{AddRecipe}
use Rattle.plant_base.specs.declared.command.ImportOrders.{ImportOrders}

-- ---- no value has an LF

abbrev pub IsLine : List ℕ → Type 0
IsLine bs = is_line bs ≡ true

inner_id : (b : ℕ) → is_id_byte b ≡ true → is_text_byte b ≡ true
inner_id b h = grind (arith, nat_tests)

inner_unit : (b : ℕ) → is_unit_byte b ≡ true → is_text_byte b ≡ true
inner_unit b h = grind (arith, nat_tests)

inner_due : (b : ℕ) → is_due_byte b ≡ true → is_text_byte b ≡ true
inner_due b h = grind (arith, nat_tests)

all_inner : (p : ℕ → Bool) → ((b : ℕ) → p b ≡ true → is_text_byte b ≡ true) → (bs : List ℕ) → list_all p bs ≡ true → IsLine bs
all_inner p each [] h = refl
all_inner p each (b ∷ bs) h =
    let t = both (p b) (list_all p bs) h in
    λ i. each b t.0 i && all_inner p each bs t.1 i

pub id_line : (bs : List ℕ) → IsTrue (is_id bs) → IsLine bs
id_line bs h = all_inner is_id_byte inner_id bs (both _ _ h).1

pub text_line : (bs : List ℕ) → IsTrue (is_text bs) → IsLine bs
text_line bs h = (both _ _ h).1

pub unit_line : (bs : List ℕ) → IsTrue (is_unit bs) → IsLine bs
unit_line bs h = all_inner is_unit_byte inner_unit bs (both _ _ h).1

due_line : (bs : List ℕ) → IsTrue (is_due bs) → IsLine bs
due_line bs h = all_inner is_due_byte inner_due bs (both _ _ (both _ (is_yes (due_day_of bs)) h).0).1

inner_digit : (d : ℕ) → d < 10 → is_text_byte (digit_glyph false d) ≡ true
inner_digit d h = grind (arith, nat_tests)

inner_glyph : (n : ℕ) → is_text_byte (digit_glyph false (n % 10)) ≡ true
inner_glyph n = inner_digit (n % 10) (mod-lt n (omega arith))

digits_line : (k n : ℕ) (acc : List ℕ) → IsLine acc → IsLine (digits_onto k 10 false n acc)
digits_line zero n acc h = h
digits_line (suc k) n acc h =
    let more : IsLine (digit_glyph false (n % 10) ∷ acc) = λ i. inner_glyph n i && h i in
    elim (n / 10 == 0) as (λ b. IsLine (if b then digit_glyph false (n % 10) ∷ acc else digits_onto k 10 false (n / 10) (digit_glyph false (n % 10) ∷ acc))) [
      | true ↦ more
      | false ↦ digits_line k (n / 10) (digit_glyph false (n % 10) ∷ acc) more
    ]

pub number_line : (n : ℕ) → IsLine (decimal n)
unfolding digits
number_line n = digits_line 64 n [] refl

pub word_line : (w : Word) → IsLine (word_name w)
word_line word.Start = refl
word_line _ = refl

-- ---- no line of a content has one

abbrev pub AreLines : List (List ℕ) → Type 0
AreLines ls = AllByRecursion IsLine ls

items_lines : {A : Type 0} (f : A → List (List ℕ)) (V : A → Type 0) → ((x : A) → V x → AreLines (f x)) → (xs : List A) → AllByRecursion V xs → AreLines (flat_map f xs)
items_lines f V each [] h = tt
items_lines f V each (x ∷ xs) h = All-append IsLine (f x) (flat_map f xs) (each x h.0) (items_lines f V each xs h.1)

part_are : (p : Part) → HasPartValues p → AreLines (part_lines p)
part_are p v = (id_line p.lot v.0, (number_line p.sub, (number_line p.amount, tt)))

order_are : (o : OrderRow) → HasOrderValues o → AreLines (order_lines o)
order_are o v = (id_line o.order v.order, (id_line o.recipe v.recipe, (number_line o.version, (number_line o.size, (due_line o.due v.due, (number_line o.priority, tt))))))

recipe_are : (l : RecipeLine) → HasLineValues l → AreLines (recipe_line_lines l)
recipe_are (line.In def amount) v = (refl, (id_line def v.0, (number_line amount, tt)))
recipe_are (line.Out def amount) v = (refl, (id_line def v.0, (number_line amount, tt)))
recipe_are (line.Parameter name value) v = (refl, (id_line name v.0, (text_line value v.1, tt)))
recipe_are (line.Phase u o p) v = (refl, (id_line u v.0, (id_line o v.1, (id_line p v.2, tt))))

pub merge_are : (c : Merge) → HasMergeValues c → AreLines (merge_lines c)
merge_are c v = (refl, (id_line c.new v.0, (text_line c.place v.1, (number_line (length c.parts), items_lines part_lines HasPartValues part_are c.parts (recursion_from_All HasPartValues c.parts v.2)))))

pub add_recipe_are : (c : AddRecipe) → HasAddRecipeValues c → AreLines (add_recipe_lines c)
add_recipe_are c v = (
  refl,
  (
    id_line c.header.recipe v.0.recipe,
    (
      number_line c.header.version,
      (
        id_line c.header.product v.0.product,
        (
          number_line c.header.base,
          (
            number_line c.header.least,
            (number_line c.header.greatest, (text_line c.header.title v.0.title, (number_line (length c.lines), items_lines recipe_line_lines HasLineValues recipe_are c.lines (recursion_from_All HasLineValues c.lines v.1)))),
          ),
        ),
      ),
    ),
  ),
)

pub import_orders_are : (c : ImportOrders) → HasImportOrdersValues c → AreLines (import_orders_lines c)
import_orders_are c v = (refl, (number_line (length c.orders), items_lines order_lines HasOrderValues order_are c.orders (recursion_from_All HasOrderValues c.orders v)))
