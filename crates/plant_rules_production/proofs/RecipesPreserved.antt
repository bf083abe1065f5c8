-- What commands keep of consistent recipes, and of the orders and batches that use them.
use Rattle.std.proofs.Common.{◌≡◌, ◌∙◌, ℕ, Bool, true, false, List, map, find, Option, Some, None, is_some, option_map, refl, sym, ap, subst, ◌&&◌, ◌==◌, is_eq}
use Rattle.std.specs.List.{AllByRecursion, list_all}
use Rattle.std.specs.List.Sorted.{IsStrictlySortedBy}
use Rattle.std.proofs.lemmas.Bool.{false≢true}
use Rattle.plant_base.specs.{same, put, definition_order, recipe_order, master_line_order, is_version, HasHeaderValues, HasLineValues, Batch, BatchEvent, ControlLine, Definition, Header, Job, MasterLine, OrderRow, Recipe, RecipeLine, RecipeState}
use Rattle.plant_base.specs.declared.rows.RecipeLine.TheVariants.{In, Out, Parameter, Phase}
use Rattle.plant_view.proofs.ListLemmas.{found_passes, all_weaker, sorted_put, found_put, found_same, put_there, put_kept, same_key, key_itself, id_still, none_left, each_passes, sorted_mapped, find_mapped, all_put_apart, all_put_all, sorted_put_all, filter_past_all, filter_new_all, all_numbered, map_numbered, sorted_numbered}
use Rattle.plant_recipe.specs.{is_well_formed, control_of}
use Rattle.plant_view.specs.{is_defined, is_known, master_line, numbered, put_all, headers_of, header_among, rows_among, lines_among, IsConsistentRecipe, AreConsistentRecipes, orders_of, order_among, is_size_of_some, AreConsistentOrders, control_of_header, control_of_order, AreConsistentBatches}
use Rattle.plant_rules_production.specs.Recipes.{with_state}
use Rattle.plant_view.proofs.RowKeys.{header_order, header_order_total, recipe_order_total, master_line_order_total, numbered_tie, numbered_test, master_recipe_tied, header_test, keys_apart, master_rises}

-- ---- a new definition

known_still : (definitions : List Definition) (r : Definition) (l : RecipeLine) → is_known definitions l ≡ true → is_known (put definition_order r definitions) l ≡ true
known_still definitions r (In def amount) known = id_still (λ (d : Definition). d.id) r definitions def known
known_still definitions r (Out def amount) known = id_still (λ (d : Definition). d.id) r definitions def known
known_still definitions r (Parameter name value) known = known
known_still definitions r (Phase unit_procedure operation phase) known = known

pub recipes_defined : (definitions : List Definition) (recipes : List Recipe) (rows : List MasterLine) (r : Definition) → AreConsistentRecipes definitions recipes rows → AreConsistentRecipes (put definition_order r definitions) recipes rows
recipes_defined definitions recipes rows r sound = record {
  sorted = sound.sorted;
  rows_sorted = sound.rows_sorted;
  whole = all_weaker _ _ (λ (h : Header) w. record {
    version = w.version;
    values = w.values;
    line_values = w.line_values;
    formed = w.formed;
    numbered = w.numbered;
    product = id_still (λ (d : Definition). d.id) r definitions h.product w.product;
    materials = all_weaker _ _ (known_still definitions r) (lines_among rows h.recipe h.version) w.materials;
  }) (headers_of recipes) sound.whole;
  listed = sound.listed;
}

-- ---- headers

pub headers_put : (recipes : List Recipe) (r : Recipe) → headers_of (put recipe_order r recipes) ≡ put header_order r.header (headers_of recipes)
headers_put recipes r = put_kept (λ (x : Recipe). x.header) recipe_order header_order (λ a b. refl) r recipes

headers_sorted : (recipes : List Recipe) → IsStrictlySortedBy recipe_order recipes → IsStrictlySortedBy header_order (headers_of recipes)
headers_sorted recipes sorted = sorted_mapped header_order (λ (x : Recipe). x.header) recipes sorted

-- a recipe whose state goes on keeps its header
pub headers_same : (recipes : List Recipe) → IsStrictlySortedBy recipe_order recipes → (id : List ℕ) (version : ℕ) (o : Option Recipe) → find (λ (r : Recipe). same r.header.recipe id && r.header.version == version) recipes ≡ o → (to : RecipeState) → headers_of (with_state to o recipes) ≡ headers_of recipes
headers_same recipes sorted id version None e to = refl
headers_same recipes sorted id version (Some r) e to =
    let keys = same_key r.header.recipe id r.header.version version (found_passes _ recipes r e) in
    let test = λ (h : Header). same h.recipe id && h.version == version in
    headers_put recipes (record { header = r.header; state = to })
    ∙ put_there header_order header_order_total r.header test (λ q. (λ i. same q.recipe (sym keys.0 i) && q.version == sym keys.1 i) ∙ header_test r.header q) (headers_of recipes) (headers_sorted recipes sorted) (find_mapped test (λ (x : Recipe). x.header) recipes ∙ ap (option_map (λ (x : Recipe). x.header)) e)

pub with_state_sorted : (recipes : List Recipe) → IsStrictlySortedBy recipe_order recipes → (o : Option Recipe) (to : RecipeState) → IsStrictlySortedBy recipe_order (with_state to o recipes)
with_state_sorted recipes sorted None to = sorted
with_state_sorted recipes sorted (Some r) to = sorted_put recipe_order recipe_order_total (record { header = r.header; state = to }) recipes sorted

-- recipes with other states
pub recipes_moved : (definitions : List Definition) (recipes moved : List Recipe) (rows : List MasterLine) → headers_of moved ≡ headers_of recipes → IsStrictlySortedBy recipe_order moved → AreConsistentRecipes definitions recipes rows → AreConsistentRecipes definitions moved rows
recipes_moved definitions recipes moved rows kept sorted sound = record {
  sorted = sorted;
  rows_sorted = sound.rows_sorted;
  whole = subst (AllByRecursion (IsConsistentRecipe definitions rows)) (sym kept) sound.whole;
  listed = subst (λ hs. AllByRecursion (λ (l : MasterLine). is_some (header_among hs l.recipe l.version) ≡ true) rows) (sym kept) sound.listed;
}

-- ---- a recipe whose lines are as before

whole_alike : (definitions : List Definition) (rows more : List MasterLine) (h : Header) → rows_among more h.recipe h.version ≡ rows_among rows h.recipe h.version → IsConsistentRecipe definitions rows h → IsConsistentRecipe definitions more h
whole_alike definitions rows more h e w =
    let line = λ (l : MasterLine). l.line in
    record {
      version = w.version;
      values = w.values;
      line_values = subst (λ ls. AllByRecursion HasLineValues (map line ls)) (sym e) w.line_values;
      formed = ap (λ ls. is_well_formed h (map line ls)) e ∙ w.formed;
      numbered = e ∙ w.numbered ∙ ap (λ ls. numbered (master_line h) 1 (map line ls)) (sym e);
      product = w.product;
      materials = subst (λ ls. AllByRecursion (λ (l : RecipeLine). is_known definitions l ≡ true) (map line ls)) (sym e) w.materials;
    }

some_size : (h : Option Header) (size : ℕ) → is_size_of_some h size ≡ true → is_some h ≡ true
some_size None size e = absurd (false≢true e)
some_size (Some h) size e = refl

some_header : (rows : List MasterLine) (o : OrderRow) (h : Option Header) (lines : List RecipeLine) → control_of_header rows o h ≡ Some lines → is_some h ≡ true
some_header rows o None lines e = absurd cc
some_header rows o (Some h) lines e = refl

control_alike : (rows more : List MasterLine) (o : OrderRow) → lines_among more o.recipe o.version ≡ lines_among rows o.recipe o.version → (h : Option Header) → control_of_header more o h ≡ control_of_header rows o h
control_alike rows more o e None = refl
control_alike rows more o e (Some h) = ap (λ ls. control_of h ls o.size) e

-- ---- a new recipe

module _ (definitions : List Definition) (recipes : List Recipe) (rows : List MasterLine) (sound : AreConsistentRecipes definitions recipes rows) (r : Recipe) (lines : List RecipeLine) (free : is_some (header_among (headers_of recipes) r.header.recipe r.header.version) ≡ false) where
  abbrev pub more : List MasterLine
  more = put_all master_line_order (numbered (master_line r.header) 1 lines) rows

  abbrev pub headed : List Header
  headed = put header_order r.header (headers_of recipes)

  abbrev is_there : List ℕ → ℕ → Bool
  is_there id version = is_some (header_among (headers_of recipes) id version)

  -- the lines of other recipes are as before
  other_rows : (id : List ℕ) (version : ℕ) → (same r.header.recipe id && r.header.version == version) ≡ false → rows_among more id version ≡ rows_among rows id version
  other_rows id version apart = filter_past_all master_line_order master_line_order_total (λ (l : MasterLine). same l.recipe id && l.version == version) (master_recipe_tied id version) (numbered (master_line r.header) 1 lines) rows (all_numbered (master_line r.header) (λ (l : MasterLine). (same l.recipe id && l.version == version) ≡ false) (λ k l. apart) 1 lines)

  its_rows : rows_among more r.header.recipe r.header.version ≡ numbered (master_line r.header) 1 lines
  its_rows =
      let h = r.header in
      let test = λ (l : MasterLine). same l.recipe h.recipe && l.version == h.version in
      filter_new_all master_line_order master_line_order_total test (master_recipe_tied h.recipe h.version) (numbered (master_line h) 1 lines) rows sound.rows_sorted
      (sorted_numbered (master_line h) master_line_order (master_rises h) 1 lines)
      (all_numbered (master_line h) (λ (l : MasterLine). test l ≡ true) (λ k l. key_itself h.recipe h.version) 1 lines)
      (none_left test rows (all_weaker _ _ (λ (l : MasterLine) known. (keys_apart is_there l.recipe l.version h.recipe h.version known free).0) rows sound.listed))

  its_lines : lines_among more r.header.recipe r.header.version ≡ lines
  its_lines = ap (map (λ (l : MasterLine). l.line)) its_rows ∙ map_numbered (master_line r.header) (λ (l : MasterLine). l.line) (λ k l. refl) 1 lines

  -- the headers that are there are found as before
  pub header_stays : (id : List ℕ) (version : ℕ) → is_there id version ≡ true → header_among headed id version ≡ header_among (headers_of recipes) id version
  header_stays id version known =
      let h = r.header in
      let apart = (keys_apart is_there id version h.recipe h.version known free).1 in
      found_same header_order h (λ (q : Header). same q.recipe id && q.version == version) (headers_of recipes) apart (λ q e. let keys = numbered_tie h.recipe h.version q.recipe q.version e in (λ i. same (sym keys.0 i) id && sym keys.1 i == version) ∙ apart)

  pub recipes_added : HasHeaderValues r.header → AllByRecursion HasLineValues lines → is_version r.header.version ≡ true → is_well_formed r.header lines ≡ true → is_defined definitions r.header.product ≡ true → list_all (is_known definitions) lines ≡ true → AreConsistentRecipes definitions (put recipe_order r recipes) more
  recipes_added values line_values version formed product known =
      let h = r.header in
      let test = λ (q : Header). same q.recipe h.recipe && q.version == h.version in
      let this : IsConsistentRecipe definitions more h = record {
        version = version;
        values = values;
        line_values = subst (AllByRecursion HasLineValues) (sym its_lines) line_values;
        formed = ap (is_well_formed h) its_lines ∙ formed;
        numbered = its_rows ∙ ap (numbered (master_line h) 1) (sym its_lines);
        product = product;
        materials = subst (AllByRecursion (λ (l : RecipeLine). is_known definitions l ≡ true)) (sym its_lines) (each_passes (is_known definitions) lines known);
      } in
      let listed = all_put_all master_line_order master_line_order_total (λ (l : MasterLine). is_some (header_among headed l.recipe l.version) ≡ true) (numbered (master_line h) 1 lines) rows
      (all_numbered (master_line h) (λ (l : MasterLine). is_some (header_among headed l.recipe l.version) ≡ true) (λ k l. found_put header_order h test (headers_of recipes) (key_itself h.recipe h.version)) 1 lines)
      (all_weaker _ _ (λ (l : MasterLine) there. ap is_some (header_stays l.recipe l.version there) ∙ there) rows sound.listed) in
      let others : (q : Header) → IsConsistentRecipe definitions rows q → is_eq (header_order h q) ≡ false → IsConsistentRecipe definitions more q = λ q w apart. whole_alike definitions rows more q (other_rows q.recipe q.version (numbered_test h.recipe h.version q.recipe q.version ∙ apart)) w in
      let whole = all_put_apart header_order header_order_total h (IsConsistentRecipe definitions more) (headers_of recipes) (headers_sorted recipes sound.sorted) this
      (all_weaker _ _ others (headers_of recipes) sound.whole) in
      record {
        sorted = sorted_put recipe_order recipe_order_total r recipes sound.sorted;
        rows_sorted = sorted_put_all master_line_order master_line_order_total (numbered (master_line h) 1 lines) rows sound.rows_sorted;
        whole = subst (AllByRecursion (IsConsistentRecipe definitions more)) (sym (headers_put recipes r)) whole;
        listed = subst (λ hs. AllByRecursion (λ (l : MasterLine). is_some (header_among hs l.recipe l.version) ≡ true) more) (sym (headers_put recipes r)) listed;
      }

  pub orders_headed : (jobs : List Job) (batches : List Batch) → AreConsistentOrders (headers_of recipes) jobs batches → AreConsistentOrders headed jobs batches
  orders_headed jobs batches orders = record {
    sorted = orders.sorted;
    values = orders.values;
    sized = all_weaker _ _ (λ (o : OrderRow) sized. ap (λ h. is_size_of_some h o.size) (header_stays o.recipe o.version (some_size _ o.size sized)) ∙ sized) (orders_of jobs) orders.sized;
    started = orders.started;
  }

  -- the control recipe of an order is as before
  control_stays : (o : Option OrderRow) (control : List RecipeLine) → control_of_order (headers_of recipes) rows o ≡ Some control → control_of_order headed more o ≡ Some control
  control_stays None control e = e
  control_stays (Some o) control e =
      let known = some_header rows o (header_among (headers_of recipes) o.recipe o.version) control e in
      let alike = ap (map (λ (l : MasterLine). l.line)) (other_rows o.recipe o.version (keys_apart is_there o.recipe o.version r.header.recipe r.header.version known free).1) in
      ap (control_of_header more o) (header_stays o.recipe o.version known) ∙ control_alike rows more o alike (header_among (headers_of recipes) o.recipe o.version) ∙ e

  pub batches_headed : (orders : List OrderRow) (batches : List Batch) (control : List ControlLine) (events : List BatchEvent) → AreConsistentBatches (headers_of recipes) rows orders batches control events → AreConsistentBatches headed more orders batches control events
  batches_headed orders batches control events own = record {
    sorted = own.sorted;
    control_sorted = own.control_sorted;
    each = all_weaker _ _ (λ (b : Batch) w. record { values = w.values; alone = w.alone; scaled = control_stays (order_among orders b.job) _ w.scaled; numbered = w.numbered }) batches own.each;
    controlled = own.controlled;
    witnessed = own.witnessed;
  }
