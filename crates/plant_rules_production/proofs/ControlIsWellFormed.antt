-- What holds of the control recipes of a consistent state: they are made from well-formed recipes.
use Rattle.std.proofs.Common.{◌≡◌, ◌∙◌, ℕ, true, false, cond, List, map, Option, Some, None, refl, sym, ap, subst, arith, ◌&&◌, ◌==◌, nat_le}
use Rattle.std.specs.List.{AllByRecursion, list_any}
use Rattle.std.proofs.lemmas.Option.{same_Some}
use Rattle.std.proofs.lemmas.Bool.Decides.{nat_tests}
use Rattle.plant_base.specs.{greatest_amount, is_amount, HasLineValues, State, same, batch_at, Batch, ControlLine, Header, OrderRow, RecipeLine}
use Rattle.plant_base.specs.declared.rows.RecipeLine.TheVariants.{In, Out, Parameter, Phase}
use Rattle.plant_view.proofs.ListLemmas.{found_passes, found_keeps, same_id, same_key, all_two, each_fails, all_mapped, each_passes}
use Rattle.plant_recipe.specs.{fits, is_well_formed, is_size_of, line_scaled, scales_to_nothing, control_of}
use Rattle.plant_recipe.proofs.RecipeLines.{control_fits}
use Rattle.plant_view.specs.{headers_of, header_among, lines_among, IsConsistentRecipe, orders_of, order_among, is_size_of_some, control_among, control_of_header, control_of_order, IsConsistentBatch}
use Rattle.plant_view.specs.DecisionInvariant.{DecisionInvariant}

-- the lines are the control recipe of a well-formed recipe for one of its sizes
pub record IsMade (control : List RecipeLine) : Type 0 where
  pub header : Header
  pub lines : List RecipeLine
  pub size : ℕ
  pub formed : is_well_formed header lines ≡ true
  pub sized : is_size_of header size ≡ true
  pub values : AllByRecursion HasLineValues lines
  pub made : control_of header lines size ≡ Some control

module _ (s : State) (sound : DecisionInvariant s) where
  made_by_header : (o : OrderRow) (control : List RecipeLine) (h : Option Header) → header_among (headers_of s.recipes) o.recipe o.version ≡ h → is_size_of_some h o.size ≡ true → control_of_header s.master_lines o h ≡ Some control → IsMade control
  made_by_header o control None found sized e = absurd cc
  made_by_header o control (Some h) found sized e =
      let test = λ (x : Header). same x.recipe o.recipe && x.version == o.version in
      let keys = same_key h.recipe o.recipe h.version o.version (found_passes test (headers_of s.recipes) h found) in
      let whole = found_keeps (IsConsistentRecipe s.definitions s.master_lines) test (headers_of s.recipes) h sound.recipes.whole found in
      let own : lines_among s.master_lines o.recipe o.version ≡ lines_among s.master_lines h.recipe h.version = λ i. lines_among s.master_lines (sym keys.0 i) (sym keys.1 i) in
      record {
        header = h;
        lines = lines_among s.master_lines o.recipe o.version;
        size = o.size;
        formed = ap (is_well_formed h) own ∙ whole.formed;
        sized = sized;
        values = subst (AllByRecursion HasLineValues) (sym own) whole.line_values;
        made = e;
      }

  made_by_order : (id : List ℕ) (control : List RecipeLine) (o : Option OrderRow) → order_among (orders_of s.jobs) id ≡ o → control_of_order (headers_of s.recipes) s.master_lines o ≡ Some control → IsMade control
  made_by_order id control None found e = absurd cc
  made_by_order id control (Some o) found e =
      let sized = found_keeps (λ (x : OrderRow). is_size_of_some (header_among (headers_of s.recipes) x.recipe x.version) x.size ≡ true) (λ (x : OrderRow). same x.order id) (orders_of s.jobs) o sound.production.orders.sized found in
      made_by_header o control (header_among (headers_of s.recipes) o.recipe o.version) refl sized e

  -- the lines of each batch are
  pub control_made : (id : List ℕ) (b : Batch) → batch_at s id ≡ Some b → IsMade (map (λ l. l.line) (control_among s.control_lines id))
  control_made id b found =
      let key : b.id ≡ id = same_id b.id id (found_passes (λ (x : Batch). same x.id id) s.batches b found) in
      let w = found_keeps (IsConsistentBatch (headers_of s.recipes) s.master_lines (orders_of s.jobs) s.batches s.control_lines) (λ (x : Batch). same x.id id) s.batches b sound.production.batches.each found in
      subst (λ i. IsMade (map (λ (l : ControlLine). l.line) (control_among s.control_lines i))) key (made_by_order b.job _ (order_among (orders_of s.jobs) b.job) refl w.scaled)

-- ---- values

amount_of : (n : ℕ) → (n == 0) ≡ false → nat_le n greatest_amount ≡ true → is_amount n ≡ true
amount_of n some small = grind (arith, nat_tests)

line_valid : (base size : ℕ) (l : RecipeLine) → HasLineValues l → scales_to_nothing base size l ≡ false → fits base size l ≡ true → HasLineValues (line_scaled base size l)
line_valid base size (In def amount) values some small = (values.0, amount_of _ some small)
line_valid base size (Out def amount) values some small = (values.0, amount_of _ some small)
line_valid base size (Parameter name value) values some small = values
line_valid base size (Phase unit_procedure operation phase) values some small = values

-- the values of what is made obey their rules
pub made_valid : (control : List RecipeLine) → IsMade control → AllByRecursion HasLineValues control
made_valid control m =
    let base = m.header.base in
    let scaled = map (line_scaled base m.size) m.lines in
    elim (list_any (scales_to_nothing base m.size) m.lines) as (λ b. list_any (scales_to_nothing base m.size) m.lines ≡ b → cond b None (Some scaled) ≡ Some control → AllByRecursion HasLineValues control) [
      | true ↦ λ nothing e. absurd cc
      | false ↦ λ some e.
          let IsScaled : RecipeLine → Type 0 = λ l. HasLineValues l × (scales_to_nothing base m.size l ≡ false) in
          let own = all_two HasLineValues (λ l. scales_to_nothing base m.size l ≡ false) IsScaled (λ l v n. (v, n)) m.lines m.values (each_fails (scales_to_nothing base m.size) m.lines some) in
          let small = each_passes (fits base m.size) m.lines (control_fits m.header m.lines m.size m.formed m.sized) in
          subst (AllByRecursion HasLineValues) (same_Some scaled control e)
          (all_mapped HasLineValues (line_scaled base m.size) m.lines (all_two IsScaled (λ l. fits base m.size l ≡ true) (λ l. HasLineValues (line_scaled base m.size l)) (λ l v f. line_valid base m.size l v.0 v.1 f) m.lines own small))
    ] refl m.made
