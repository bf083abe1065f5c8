-- How nodes get their layers, one after the other.
use Rattle.std.proofs.Common.{◌≡◌, ◌∙◌, ℕ, ◌+◌, Bool, true, false, cond, List, [], ◌∷◌, Some, refl, sym, ap, subst, max, IsSome, unwrap_or, All, fold, is_eq, BTreeMap}
use Rattle.std.specs.BTreeMap.{get, Updates}
use Rattle.std.proofs.lemmas.List.Elements.{All-head, All-tail, All-weaker}
use Rattle.std.proofs.lemmas.Map.Views.{tells_apart}
use Rattle.genealogy_svg.specs.{PictureEdge}
use Rattle.plant_trace.specs.{node_cmp, rank_of, Node}
use Rattle.plant_trace.proofs.NodeOrder.{node_exact}
use Rattle.genealogy_svg.specs.{edges_to, height, AreSettled, IsLayered}

-- the same height, where the layers are those of the nodes where edges begin
height_from : (f g : Node → ℕ) (es : List PictureEdge) (n : ℕ) → All (λ e. f e.from ≡ g e.from) es
    → fold (λ highest e. max highest (f e.from + 1)) n es ≡ fold (λ highest e. max highest (g e.from + 1)) n es
height_from f g [] n h = refl
height_from f g (e ∷ es) n h =
    ap (λ m. fold (λ highest x. max highest (f x.from + 1)) (max n (m + 1)) es) (All-head (λ x. f x.from ≡ g x.from) e es h)
    ∙ height_from f g es (max n (g e.from + 1)) (All-tail (λ x. f x.from ≡ g x.from) e es h)

module _ (edges : List PictureEdge) (old new : BTreeMap Node ℕ) (v : Node) (h : ℕ) (put : Updates node_cmp old new v (Some h)) where
  -- one that had its layer keeps it
  keeps_at : (IsLayered old v → ⊥) → (x : Node) (b : Bool) → is_eq (node_cmp v x) ≡ b → IsLayered old x → get node_cmp new x ≡ get node_cmp old x
  keeps_at none x true e had = absurd (none (subst (IsLayered old) (sym (tells_apart node_exact v x e)) had))
  keeps_at none x false e had = put.0 x ∙ ap (λ c. cond c (Some h) (get node_cmp old x)) e

  keeps : (IsLayered old v → ⊥) → (x : Node) → IsLayered old x → get node_cmp new x ≡ get node_cmp old x
  keeps none x had = keeps_at none x (is_eq (node_cmp v x)) refl had

  still_at : (x : Node) (b : Bool) → is_eq (node_cmp v x) ≡ b → IsLayered old x → IsLayered new x
  still_at x true e had = let is : get node_cmp new x ≡ Some h = put.0 x ∙ ap (λ c. cond c (Some h) (get node_cmp old x)) e in rw is refl
  still_at x false e had = let is : get node_cmp new x ≡ get node_cmp old x = put.0 x ∙ ap (λ c. cond c (Some h) (get node_cmp old x)) e in rw is had

  pub still_layered : (x : Node) → IsLayered old x → IsLayered new x
  still_layered x had = still_at x (is_eq (node_cmp v x)) refl had

  pub now_layered : IsLayered new v
  now_layered = rw put.1 refl

  ranks_keep : (IsLayered old v → ⊥) → (es : List PictureEdge) → All (λ e. IsLayered old e.from) es → height (rank_of new) es ≡ height (rank_of old) es
  ranks_keep none es had =
      height_from (rank_of new) (rank_of old) es 0
      (All-weaker (λ e. IsLayered old e.from) (λ e. rank_of new e.from ≡ rank_of old e.from) (λ e a. ap (λ o. unwrap_or o 0) (keeps none e.from a)) es had)

  module _ (none : IsLayered old v → ⊥) (settled : AreSettled edges old) (is : h ≡ height (rank_of old) (edges_to edges v)) (all : All (λ e. IsLayered old e.from) (edges_to edges v)) where
    highest_at : (x : Node) (b : Bool) → is_eq (node_cmp v x) ≡ b → IsLayered new x → rank_of new x ≡ height (rank_of new) (edges_to edges x)
    highest_at x true e had =
        let here : v ≡ x = tells_apart node_exact v x e in
        let rank : rank_of new v ≡ h = ap (λ o. unwrap_or o 0) put.1 in
        subst (λ y. rank_of new y ≡ height (rank_of new) (edges_to edges y)) here (rank ∙ (is ∙ sym (ranks_keep none (edges_to edges v) all)))
    highest_at x false e had =
        let same : get node_cmp new x ≡ get node_cmp old x = put.0 x ∙ ap (λ c. cond c (Some h) (get node_cmp old x)) e in
        let was : IsLayered old x = subst IsSome same had in
        ap (λ o. unwrap_or o 0) same ∙ (settled.highest x was ∙ sym (ranks_keep none (edges_to edges x) (settled.before x was)))

    before_at : (x : Node) (b : Bool) → is_eq (node_cmp v x) ≡ b → IsLayered new x → All (λ e. IsLayered old e.from) (edges_to edges x)
    before_at x true e had = subst (λ y. All (λ a. IsLayered old a.from) (edges_to edges y)) (tells_apart node_exact v x e) all
    before_at x false e had =
        let same : get node_cmp new x ≡ get node_cmp old x = put.0 x ∙ ap (λ c. cond c (Some h) (get node_cmp old x)) e in
        settled.before x (subst IsSome same had)

    -- one more node has its layer
    pub settled_more : AreSettled edges new
    settled_more = record {
      highest = λ x had. highest_at x (is_eq (node_cmp v x)) refl had;
      before = λ x had. All-weaker (λ e. IsLayered old e.from) (λ e. IsLayered new e.from) (λ e a. still_layered e.from a) (edges_to edges x)
          (before_at x (is_eq (node_cmp v x)) refl had);
    }
