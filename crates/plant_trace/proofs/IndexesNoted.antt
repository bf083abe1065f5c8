-- How the positions of a list are noted one by one.
use Rattle.std.proofs.Common.{◌≡◌, ◌∙◌, ℕ, ◌+◌, ◌<◌, ◌≤◌, Bool, true, false, cond, List, [], ◌∷◌, ◌++◌, take, length, get_or, Option, Some, refl, sym, ap, subst, ⊎_elim, arith, Contains, append_assoc, zero, suc, IsSome, slice_get, is_eq, BTreeMap, append-nil, length-take-le, length-append}
use Rattle.std.specs.BTreeMap.{get, IsEmpty, Updates}
use Rattle.std.proofs.lemmas.List.{take_more, take-append-le}
use Rattle.std.proofs.lemmas.List.Elements.{Contains-append_left, Contains-push_cases}
use Rattle.std.proofs.lemmas.Map.Views.{tells_apart}
use Rattle.plant_trace.specs.{node_cmp, AreIndexes, Grows}
use Rattle.plant_trace.specs.declared.node.Node.{Node}
use Rattle.plant_trace.proofs.NodeOrder.{node_exact}
use Rattle.plant_trace.proofs.NodeSets.{none_in}

-- ---- lists that grow

pub Grows-none : (xs : List Node) → Grows xs xs
Grows-none xs = ([], sym (append-nil xs))

pub Grows-then : (xs ys zs : List Node) → Grows xs ys → Grows ys zs → Grows xs zs
Grows-then xs ys zs (a, p) (b, q) = (a ++ b, q ∙ (ap (λ (l : List Node). l ++ b) p ∙ append_assoc xs a b))

pub Grows-keeps : (xs ys : List Node) → Grows xs ys → (x : Node) → Contains xs x → Contains ys x
Grows-keeps xs ys (more, e) x h = subst (λ (l : List Node). Contains l x) (sym e) (Contains-append_left xs more x h)

pub Grows-longer : (xs ys : List Node) → Grows xs ys → length xs ≤ length ys
Grows-longer xs ys (more, e) = rw e (omega (arith, length-append xs more))

pub Grows-prefix : (n : ℕ) (xs ys : List Node) → n ≤ length xs → Grows xs ys → take n ys ≡ take n xs
Grows-prefix n xs ys h (more, e) = rw e (take-append-le n xs more h)

-- ---- positions

pub slice_get_prefix : (xs ys : List Node) (n : ℕ) (x : Node) → slice_get xs n ≡ Some x → slice_get (xs ++ ys) n ≡ Some x
slice_get_prefix [] ys n x e = absurd cc
slice_get_prefix (y ∷ xs) ys zero x e = e
slice_get_prefix (y ∷ xs) ys (suc n) x e = slice_get_prefix xs ys n x e

slice_get_end : (xs : List Node) (x : Node) → slice_get (xs ++ x ∷ []) (length xs) ≡ Some x
slice_get_end [] x = refl
slice_get_end (y ∷ xs) x = slice_get_end xs x

some_cond : (b : Bool) (n : ℕ) (o : Option ℕ) → IsSome o → IsSome (cond b (Some n) o)
some_cond true n o h = refl
some_cond false n o h = h

module _ (xs : List Node) (old new : BTreeMap Node ℕ) (x : Node) (put : Updates node_cmp old new x (Some (length xs))) (ranks : AreIndexes xs old) where
  there_at : (y : Node) (n : ℕ) (b : Bool) → is_eq (node_cmp x y) ≡ b → cond b (Some (length xs)) (get node_cmp old y) ≡ Some n → slice_get (xs ++ x ∷ []) n ≡ Some y
  there_at y n true e h =
      let here : x ≡ y = tells_apart node_exact x y e in
      let last : length xs ≡ n = cc in
      subst (λ (k : ℕ). slice_get (xs ++ x ∷ []) k ≡ Some y) last (slice_get_end xs x ∙ ap (λ (z : Node). Some z) here)
  there_at y n false e h = slice_get_prefix xs (x ∷ []) n y (ranks.there y n h)

  found_last : IsSome (get node_cmp new x)
  found_last = rw put.1 refl

  -- one more node at its position
  pub placed : AreIndexes (xs ++ x ∷ []) new
  placed = record {
    found = λ y h. ⊎_elim
        (λ i. rw (put.0 y) (some_cond (is_eq (node_cmp x y)) (length xs) (get node_cmp old y) (ranks.found y i)))
        (λ e. subst (λ (z : Node). IsSome (get node_cmp new z)) e found_last)
        (Contains-push_cases xs x y h);
    there = λ y n h. there_at y n (is_eq (node_cmp x y)) refl (sym (put.0 y) ∙ h);
  }

pub places_none : (positions : BTreeMap Node ℕ) → IsEmpty positions → AreIndexes [] positions
places_none positions e = record {
  found = λ x h. absurd (none_in x h);
  there = λ x n h. let gone = rw e at h in absurd cc;
}

-- the turn of a loop over a list that grows
pub placed_more : (ready grown : List Node) (at : ℕ) (d x : Node) (old new : BTreeMap Node ℕ) → x ≡ get_or ready at d → at < length ready → Grows ready grown
    → Updates node_cmp old new x (Some at) → AreIndexes (take at ready) old → AreIndexes (take (at + 1) grown) new
placed_more ready grown at d x old new is h grows put ranks =
    let long : at ≡ length (take at ready) = sym (length-take-le at ready (omega (arith, h))) in
    let now : AreIndexes (take at ready ++ x ∷ []) new =
    placed (take at ready) old new x (subst (λ (n : ℕ). Updates node_cmp old new x (Some n)) long put) ranks in
    let prefix : take (at + 1) grown ≡ take at ready ++ x ∷ [] =
    Grows-prefix (at + 1) ready grown (omega (arith, h)) grows ∙ (take_more ready at d h ∙ ap (λ (y : Node). take at ready ++ y ∷ []) (sym is)) in
    subst (λ (l : List Node). AreIndexes l new) (sym prefix) now
