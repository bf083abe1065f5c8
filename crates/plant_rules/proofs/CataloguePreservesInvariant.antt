-- A new class or definition keeps a state consistent.
use Rattle.std.proofs.Common.{◌≡◌, ℕ, List, find, is_some, true}
use Rattle.std.specs.List.{AllByRecursion}
use Rattle.std.specs.List.Sorted.{IsStrictlySortedBy}
use Rattle.plant_base.specs.{State, same, class_order, definition_order, class_at, AddClass, AddDefinition, Class, Definition, Lot, Stamp}
use Rattle.plant_view.proofs.ListLemmas.{all_put, all_weaker, sorted_put, id_total, id_still}
use Rattle.plant_rules.specs.{add_class, add_definition}
use Rattle.plant_view.specs.{is_defined, AreConsistentRecipes}
use Rattle.plant_view.specs.DecisionInvariant.{DecisionInvariant}
use Rattle.plant_rules_production.proofs.RecipesPreserved.{recipes_defined}

-- lots name definitions, and recipes do; no other row names a class or a definition
with_catalogue : (s : State) → DecisionInvariant s → (seq at : ℕ) (classes : List Class) (definitions : List Definition)
    → IsStrictlySortedBy class_order classes → IsStrictlySortedBy definition_order definitions → AllByRecursion (λ d. is_some (find (λ k. same k.id d.class) classes) ≡ true) definitions
    → AllByRecursion (λ l. is_defined definitions l.def ≡ true) s.lots → AreConsistentRecipes definitions s.recipes s.master_lines
    → DecisionInvariant (record s { seq = seq; at = at; classes = classes; definitions = definitions })
with_catalogue s sound seq at classes definitions classes_sorted definitions_sorted classified defined recipes = record {
  catalogue = record { classes = classes_sorted; definitions = definitions_sorted; classified = classified; defined = defined };
  recipes = recipes;
  production = sound.production;
  stock = sound.stock;
  genealogy = sound.genealogy;
  bars = sound.bars;
}

pub add_class_preserves_invariant : (s : State) → DecisionInvariant s → (t : Stamp) (c : AddClass) → DecisionInvariant (add_class s t c)
add_class_preserves_invariant s sound t c =
    let r : Class = record { id = c.class; name = c.name } in
    with_catalogue s sound _ t.at _ s.definitions (sorted_put class_order (id_total (λ (x : Class). x.id)) r s.classes sound.catalogue.classes) sound.catalogue.definitions
    (all_weaker _ _ (λ (d : Definition) known. id_still (λ (x : Class). x.id) r s.classes d.class known) s.definitions sound.catalogue.classified)
    sound.catalogue.defined sound.recipes

pub add_definition_preserves_invariant : (s : State) → DecisionInvariant s → (t : Stamp) (c : AddDefinition) → is_some (class_at s c.class) ≡ true → DecisionInvariant (add_definition s t c)
add_definition_preserves_invariant s sound t c known =
    let r : Definition = record { id = c.def; class = c.class; name = c.name; unit = c.unit } in
    with_catalogue s sound _ t.at s.classes _ sound.catalogue.classes (sorted_put definition_order (id_total (λ (x : Definition). x.id)) r s.definitions sound.catalogue.definitions)
    (all_put definition_order (λ (d : Definition). is_some (class_at s d.class) ≡ true) r s.definitions known sound.catalogue.classified)
    (all_weaker _ _ (λ (l : Lot) known. id_still (λ (x : Definition). x.id) r s.definitions l.def known) s.lots sound.catalogue.defined)
    (recipes_defined s.definitions s.recipes s.master_lines r sound.recipes)
