-- The recipes that begin with an id, one after another.
use Rattle.std.proofs.Common.{◌≡◌, ◌∙◌, ℕ, zero, suc, true, List, [], ◌∷◌, ◌++◌, map, filter, find, take, is_some, Option, Some, None, option_to_list, refl, sym, ap, slice_get, option_and_then, append-nil, append_assoc, nat_cmp, Ordering, Less, Equal, Greater}
use Rattle.std.specs.Ordering.{ordering_then}
use Rattle.std.specs.List.{AllByRecursion}
use Rattle.std.specs.List.Sorted.{IsStrictlySortedBy}
use Rattle.plant_base.specs.{id_cmp, recipe_order, same, Recipe, State}
use Rattle.plant_view.specs.DecisionInvariant.{DecisionInvariant}
use Rattle.plant_questions.specs.{begins_with, page_size, recipes_after}
use Rattle.plant_questions.proofs.FoundRows.{first_is}
use Rattle.plant_answers_pages.specs.{each_id_once, id_if_begun, recipes_left, IsWithin}
use Rattle.plant_answers_pages.proofs.EachIdOnce.{Rising, next_is, once_sorted}

abbrev recipe_of : Recipe → List ℕ
recipe_of r = r.header.recipe

then_less : (o p : Ordering) → ordering_then o p ≡ Less → o ≡ Greater → ⊥
then_less Less p e g = absurd cc
then_less Equal p e g = absurd cc
then_less Greater p e g = absurd cc

-- the versions of recipes are in the order of their recipes
rise : (rows : List Recipe) → IsStrictlySortedBy recipe_order rows → Rising (map recipe_of rows)
unfolding IsStrictlySortedBy
rise [] sorted = tt
rise (r ∷ rows) sorted = (none_before rows sorted.0, rise rows sorted.1)
  where
    none_before : (others : List Recipe) → AllByRecursion (λ o. recipe_order r o ≡ Less) others → AllByRecursion (λ id. id_cmp (recipe_of r) id ≡ Greater → ⊥) (map recipe_of others)
    none_before [] all = tt
    none_before (o ∷ others) all = (then_less (id_cmp (recipe_of r) (recipe_of o)) (nat_cmp r.header.version o.header.version) all.0, none_before others all.1)

pub recipes_sorted : (s : State) → DecisionInvariant s → IsStrictlySortedBy id_cmp (each_id_once (map recipe_of s.recipes))
recipes_sorted s sound = once_sorted (map recipe_of s.recipes) (rise s.recipes sound.recipes.sorted)

first_of_page : (rows : List Recipe) → slice_get (take page_size rows) 0 ≡ slice_get rows 0
first_of_page [] = refl
first_of_page (r ∷ rows) = refl

of_all : (s : State) (p c : List ℕ) (rows : List Recipe) → rows ≡ take page_size (recipes_after s (Some c)) → option_and_then (id_if_begun p) (slice_get rows 0) ≡ option_and_then (id_if_begun p) (slice_get (recipes_after s (Some c)) 0)
of_all s p c rows is = ap (λ found. option_and_then (id_if_begun p) (slice_get found 0)) is ∙ ap (option_and_then (id_if_begun p)) (first_of_page (recipes_after s (Some c)))

-- the first row after a cursor is of the next recipe
pub next_recipe_is : (s : State) → DecisionInvariant s → (p c : List ℕ) → begins_with p c ≡ true → (rows : List Recipe) → rows ≡ take page_size (recipes_after s (Some c)) → (next : Option (List ℕ)) → next ≡ option_and_then (id_if_begun p) (slice_get rows 0)
    → (recipes_left s p (Some c) ≡ option_to_list next ++ recipes_left s p next) × IsWithin p next
next_recipe_is s sound p c within rows is None e = next_is recipe_of s.recipes (recipes_sorted s sound) p c within None (e ∙ of_all s p c rows is)
next_recipe_is s sound p c within rows is (Some x) e = next_is recipe_of s.recipes (recipes_sorted s sound) p c within (Some x) (e ∙ of_all s p c rows is)

-- one more
pub one_more : (s : State) (p : List ℕ) (m n : ℕ) → m ≡ suc n → (all ids : List (List ℕ)) (cursor next : Option (List ℕ)) → recipes_left s p cursor ≡ option_to_list next ++ recipes_left s p next → all ≡ ids ++ take m (recipes_left s p cursor)
    → all ≡ (ids ++ option_to_list next) ++ take n (recipes_left s p next)
one_more s p m n count all ids cursor None is so = so ∙ (λ i. ids ++ take (count i) (is i)) ∙ none n
  where
    none : (n : ℕ) → ids ++ [] ≡ (ids ++ []) ++ take n []
    none zero = sym (append-nil (ids ++ []))
    none (suc n) = sym (append-nil (ids ++ []))
one_more s p m n count all ids cursor (Some x) is so = so ∙ (λ i. ids ++ take (count i) (is i)) ∙ sym (append_assoc ids (x ∷ []) (take n (recipes_left s p (Some x))))

-- a recipe is there where it has a version
pub has_version : (p : List ℕ) (rows : List Recipe) → is_some (find (λ r. same (recipe_of r) p) rows) ≡ is_some (slice_get (filter (λ r. same (recipe_of r) p) rows) 0)
has_version p rows = ap is_some (sym (first_is (λ r. same (recipe_of r) p) rows))
