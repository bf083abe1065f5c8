-- How nodes get their positions, one after the other.
use Rattle.std.proofs.Common.{◌≡◌, ◌∙◌, ℕ, Bool, true, false, cond, List, [], ◌∷◌, ◌++◌, Option, Some, refl, sym, ap, subst, ⊎_elim, Contains, IsSome, is_eq, BTreeMap, BTreeSet}
use Rattle.std.specs.BTreeMap as maps
use Rattle.std.specs.BTreeMap.{get}
use Rattle.std.specs.BTreeSet as sets
use Rattle.std.specs.BTreeSet.{contains}
use Rattle.std.proofs.lemmas.Bool.{false≢true}
use Rattle.std.proofs.lemmas.List.Elements.{Contains-append_left, Contains-push, Contains-push_cases}
use Rattle.std.proofs.lemmas.Map.Views.{tells_apart}
use Rattle.plant_trace.specs.{node_cmp, rank_of, Node}
use Rattle.plant_trace.proofs.NodeOrder.{node_exact}
use Rattle.genealogy_svg.specs.declared.drawing.BoxPosition.{BoxPosition}
use Rattle.genealogy_svg.specs.{position_cmp, ArePositioned}

-- these nodes are placed, and their positions are taken
pub record Placing (layers : BTreeMap Node ℕ) (nodes : List Node) (taken : BTreeSet BoxPosition) (positions : BTreeMap Node BoxPosition) : Type 0 where
  pub placed : ArePositioned layers nodes positions
  pub noted : (v : Node) (p : BoxPosition) → get node_cmp positions v ≡ Some p → contains position_cmp taken p ≡ true

some_exact : {A : Type 0} (x y : A) → Some x ≡ Some y → x ≡ y
some_exact x y e = cc

cond_some : (b : Bool) (p : BoxPosition) (o : Option BoxPosition) → IsSome o → IsSome (cond b (Some p) o)
cond_some true p o h = refl
cond_some false p o h = h

cond_true : (b c : Bool) → c ≡ true → cond b true c ≡ true
cond_true true c h = refl
cond_true false c h = h

module _ (layers : BTreeMap Node ℕ) (nodes : List Node) (taken taken' : BTreeSet BoxPosition) (old new : BTreeMap Node BoxPosition) (v : Node) (p : BoxPosition)
    (take : sets.Updates position_cmp taken taken' p true) (put : maps.Updates node_cmp old new v (Some p))
    (free : contains position_cmp taken p ≡ false) (layer : p.layer ≡ rank_of layers v) (was : Placing layers nodes taken old) where
  -- the position of a node now: this one, or what it was before
  now_at : (x : Node) (q : BoxPosition) (b : Bool) → is_eq (node_cmp v x) ≡ b → get node_cmp new x ≡ Some q → cond b (Some p) (get node_cmp old x) ≡ Some q
  now_at x q b e h = ap (λ c. cond c (Some p) (get node_cmp old x)) (sym e) ∙ (sym (put.0 x) ∙ h)

  not_here : (x : Node) → get node_cmp old x ≡ Some p → ⊥
  not_here x h = false≢true (sym free ∙ was.noted x p h)

  noted_at : (x : Node) (q : BoxPosition) (b : Bool) → cond b (Some p) (get node_cmp old x) ≡ Some q → contains position_cmp taken' q ≡ true
  noted_at x q true h = subst (λ r. contains position_cmp taken' r ≡ true) (some_exact p q h) take.1
  noted_at x q false h = take.0 q ∙ cond_true (is_eq (position_cmp p q)) (contains position_cmp taken q) (was.noted x q h)

  layered_at : (x : Node) (q : BoxPosition) (b : Bool) → is_eq (node_cmp v x) ≡ b → cond b (Some p) (get node_cmp old x) ≡ Some q → q.layer ≡ rank_of layers x
  layered_at x q true e h =
      ap (λ r. r.layer) (sym (some_exact p q h)) ∙ (layer ∙ ap (rank_of layers) (tells_apart node_exact v x e))
  layered_at x q false e h = was.placed.layered x q h

  only_at : (x : Node) (q : BoxPosition) (b : Bool) → is_eq (node_cmp v x) ≡ b → cond b (Some p) (get node_cmp old x) ≡ Some q → Contains (nodes ++ v ∷ []) x
  only_at x q true e h = let P : Node → Type 0 = λ z. Contains (nodes ++ v ∷ []) z in subst P (tells_apart node_exact v x e) (Contains-push nodes v)
  only_at x q false e h = Contains-append_left nodes (v ∷ []) x (was.placed.only x q h)

  apart_at : (x y : Node) (q : BoxPosition) (b c : Bool) → is_eq (node_cmp v x) ≡ b → is_eq (node_cmp v y) ≡ c
      → cond b (Some p) (get node_cmp old x) ≡ Some q → cond c (Some p) (get node_cmp old y) ≡ Some q → x ≡ y
  apart_at x y q true true e f h k = sym (tells_apart node_exact v x e) ∙ tells_apart node_exact v y f
  apart_at x y q true false e f h k = absurd (not_here y (k ∙ ap (λ r. Some r) (sym (some_exact p q h))))
  apart_at x y q false true e f h k = absurd (not_here x (h ∙ ap (λ r. Some r) (sym (some_exact p q k))))
  apart_at x y q false false e f h k = was.placed.apart x y q h k

  -- one more node has its position
  pub placed_more : Placing layers (nodes ++ v ∷ []) taken' new
  placed_more = record {
    placed = record {
      each = λ x h. ⊎_elim
          (λ i. rw (put.0 x) (cond_some (is_eq (node_cmp v x)) p (get node_cmp old x) (was.placed.each x i)))
          (λ e. subst (λ z. IsSome (get node_cmp new z)) e (rw put.1 refl))
          (Contains-push_cases nodes v x h);
      only = λ x q h. only_at x q (is_eq (node_cmp v x)) refl (now_at x q (is_eq (node_cmp v x)) refl h);
      layered = λ x q h. layered_at x q (is_eq (node_cmp v x)) refl (now_at x q (is_eq (node_cmp v x)) refl h);
      apart = λ x y q h k. apart_at x y q (is_eq (node_cmp v x)) (is_eq (node_cmp v y)) refl refl
          (now_at x q (is_eq (node_cmp v x)) refl h) (now_at y q (is_eq (node_cmp v y)) refl k);
    };
    noted = λ x q h. noted_at x q (is_eq (node_cmp v x)) (now_at x q (is_eq (node_cmp v x)) refl h);
  }
