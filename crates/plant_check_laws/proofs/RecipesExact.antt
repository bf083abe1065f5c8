-- The rules on classes and recipes: each definition's class is there, recipes are well formed, and their lines are numbered and listed.
use Rattle.std.proofs.Common.{◌≡◌, ◌∙◌, ℕ, ◌≤◌, true, List, map, filter, find, is_none, is_some, refl, sym, ap, ◌&&◌, ◌==◌, Decides}
use Rattle.std.specs.List.{AllByRecursion}
use Rattle.std.specs.List.Sorted.{IsStrictlySortedBy}
use Rattle.plant_base.specs.{HasLineValues, same, recipe_order, master_line_order, Class, Definition, Header, MasterLine, Recipe, RecipeLine}
use Rattle.plant_view.proofs.ListLemmas.{same_key, key_itself, all_weaker, all_two, all_mapped, all_filtered, filtered_passes}
use Rattle.plant_recipe.specs.{is_well_formed}
use Rattle.plant_view.specs.{is_defined, is_known, headers_of, header_among, rows_among, lines_among, master_line, IsConsistentRecipe, AreConsistentRecipes, numbered}
use Rattle.plant_requirements.specs.{class_fault, class_fault_in, is_class_among, are_numbered, is_consistent_recipe, is_recipe_among, are_recipes}
use Rattle.plant_invariant.specs.{HasMasterValues}
use Rattle.plant_requirements.proofs.NoFault.{unless_exact, rows_exact as each_row}
use Rattle.plant_check_laws.proofs.ExactTests.{passing, both, in_words, all_exact, any_exact, any_mapped_exact, of_mapped}
use Rattle.plant_check_laws.proofs.NumberedRows.{rows_exact, owned_numbers}
use Rattle.plant_check_laws.proofs.ValuesSound.{IsValidHeader}

pub classes_exact : (classes : List Class) (definitions : List Definition) → Decides (is_none (class_fault_in classes definitions)) (AllByRecursion (λ d. is_some (find (λ c. same c.id d.class) classes) ≡ true) definitions)
classes_exact classes = each_row (class_fault classes) _ (λ (d : Definition). unless_exact (is_class_among classes d.class) _ (any_exact (λ (c : Class). same c.id d.class) classes))

-- what the rule says of a recipe
pub record IsListed (definitions : List Definition) (rows : List MasterLine) (h : Header) : Type 0 where
  pub formed : is_well_formed h (lines_among rows h.recipe h.version) ≡ true
  pub numbered : rows_among rows h.recipe h.version ≡ numbered (master_line h) 1 (lines_among rows h.recipe h.version)
  pub product : is_defined definitions h.product ≡ true
  pub materials : AllByRecursion (λ l. is_known definitions l ≡ true) (lines_among rows h.recipe h.version)

module _ (definitions : List Definition) (recipes : List Recipe) (rows : List MasterLine) where
  numbers_exact : (h : Header) → Decides (are_numbered 1 (map (λ l. l.number) (rows_among rows h.recipe h.version))) (rows_among rows h.recipe h.version ≡ numbered (master_line h) 1 (lines_among rows h.recipe h.version))
  numbers_exact h =
      let own = λ (l : MasterLine). same l.recipe h.recipe && l.version == h.version in
      rows_exact (master_line h) (λ l. l.number) (λ l. l.line) (λ l. own l ≡ true)
      (λ l is. let key = same_key l.recipe h.recipe l.version h.version is in λ i. record l { recipe = sym key.0 i; version = sym key.1 i })
      (λ k l. refl) 1 (filter own rows) (filtered_passes own rows)

  recipe_exact : (q : Recipe) → Decides (is_consistent_recipe definitions rows q) (IsListed definitions rows q.header)
  unfolding is_consistent_recipe
  recipe_exact q =
      let lines = lines_among rows q.header.recipe q.header.version in
      let known = all_exact (is_known definitions) (λ (l : RecipeLine). is_known definitions l ≡ true) (λ l. passing (is_known definitions l)) lines in
      in_words (both (both (both (passing (is_well_formed q.header lines)) (numbers_exact q.header)) (passing (is_defined definitions q.header.product))) known)
      (λ p. record { formed = p.0.0.0; numbered = p.0.0.1; product = p.0.1; materials = p.1 })
      (λ w. (((w.formed, w.numbered), w.product), w.materials))

  abbrev AreListed : Type 0
  AreListed = AllByRecursion (λ l. is_some (header_among (headers_of recipes) l.recipe l.version) ≡ true) rows

  pub recipes_exact : Decides (are_recipes definitions recipes rows) (AllByRecursion (IsListed definitions rows) (headers_of recipes) × AreListed)
  recipes_exact = both
      (of_mapped (IsListed definitions rows) (λ (q : Recipe). q.header) recipes (all_exact (is_consistent_recipe definitions rows) (λ q. IsListed definitions rows q.header) recipe_exact recipes))
      (all_exact (λ (l : MasterLine). is_recipe_among recipes l.recipe l.version) _ (λ l. any_mapped_exact (λ (h : Header). same h.recipe l.recipe && h.version == l.version) (λ (q : Recipe). q.header) recipes) rows)

  -- a consistent recipe keeps to the rule
  pub listed_recipes : AreConsistentRecipes definitions recipes rows → are_recipes definitions recipes rows ≡ true
  listed_recipes c = recipes_exact.1 (
    all_weaker (IsConsistentRecipe definitions rows) (IsListed definitions rows) (λ h w. record { formed = w.formed; numbered = w.numbered; product = w.product; materials = w.materials }) (headers_of recipes) c.whole,
    c.listed,
  )

  module _ (tests : are_recipes definitions recipes rows ≡ true) where
    -- each line has a number
    pub lines_numbered : AllByRecursion (λ l. 1 ≤ l.number) rows
    lines_numbered =
        let listed = recipes_exact.0 tests in
        let own = λ (h : Header) (l : MasterLine). same l.recipe h.recipe && l.version == h.version in
        let has_owner = λ (l : MasterLine) (h : Header). same h.recipe l.recipe && h.version == l.version in
        owned_numbers own has_owner swap (λ (l : MasterLine). l.number) (headers_of recipes) rows
        (all_weaker (IsListed definitions rows) _ (λ h w. (numbers_exact h).1 w.numbered) (headers_of recipes) listed.0) listed.1
      where
        swap : (h : Header) (l : MasterLine) → (same h.recipe l.recipe && h.version == l.version) ≡ true → (same l.recipe h.recipe && l.version == h.version) ≡ true
        swap h l is = let key = same_key h.recipe l.recipe h.version l.version is in ap (λ (k : List ℕ × ℕ). same l.recipe k.0 && l.version == k.1) (λ i. (key.0 i, key.1 i)) ∙ key_itself l.recipe l.version

    -- recipes that keep to the rule, with their values, are consistent
    pub consistent_recipes : AllByRecursion (λ (q : Recipe). IsValidHeader q.header) recipes → AllByRecursion HasMasterValues rows → IsStrictlySortedBy recipe_order recipes → IsStrictlySortedBy master_line_order rows → AreConsistentRecipes definitions recipes rows
    consistent_recipes values line_values sorted rows_sorted =
        let listed = recipes_exact.0 tests in
        record {
          sorted = sorted;
          rows_sorted = rows_sorted;
          whole = all_two (λ (h : Header). IsValidHeader h) (IsListed definitions rows) (IsConsistentRecipe definitions rows) whole (headers_of recipes) (all_mapped (λ (h : Header). IsValidHeader h) (λ q. q.header) recipes values) listed.0;
          listed = listed.1;
        }
      where
        whole : (h : Header) → IsValidHeader h → IsListed definitions rows h → IsConsistentRecipe definitions rows h
        whole h v w =
            let own = λ (l : MasterLine). same l.recipe h.recipe && l.version == h.version in
            record {
              version = v.version;
              values = v.values;
              line_values = all_mapped HasLineValues (λ l. l.line) (filter own rows) (all_filtered (λ l. HasLineValues l.line) own rows (all_weaker HasMasterValues (λ l. HasLineValues l.line) (λ l g. g.line) rows line_values));
              formed = w.formed;
              numbered = w.numbered;
              product = w.product;
              materials = w.materials;
            }
