-- Each edge leads to the right.
use Rattle.std.proofs.Common.{◌≡◌, ◌∙◌, ℕ, ◌+◌, ◌<◌, ◌≤◌, Bool, true, false, cond, List, [], ◌∷◌, ◌++◌, Option, Some, None, Result, Ok, Err, refl, sym, ap, subst, ⊎_elim, max, map, arith, Contains, filter, All, fold}
use Rattle.std.specs.BTreeMap.{get}
use Rattle.std.proofs.lemmas.Bool.{false≢true}
use Rattle.std.proofs.lemmas.List.Elements.{All-nil, All-push, All-tail, All-head, All-map, Contains-get_or}
use Rattle.grouped_rows.specs.{is_keyed}
use Rattle.genealogy_svg.specs.{Picture, PictureEdge}
use Rattle.plant_trace.specs.{node_cmp, node_ties, rank_of, Node}
use Rattle.plant_trace.proofs.LeadsIsReach.{none_in, first_in, rest_in, first_or_rest}
use Rattle.plant_trace.proofs.NodeOrder.{node_eq_itself}
use Rattle.genealogy_svg.specs.declared.drawing.Drawing.{Drawing}
use Rattle.genealogy_svg.specs.declared.drawing.DrawnBatch.{DrawnBatch}
use Rattle.genealogy_svg.specs.declared.drawing.DrawnEdge.{DrawnEdge}
use Rattle.genealogy_svg.specs.declared.drawing.DrawnLot.{DrawnLot}
use Rattle.genealogy_svg.specs.declared.drawing.LayoutFault.{LayoutFault}
use Rattle.genealogy_svg.specs.declared.drawing.BoxPosition.{BoxPosition}
use Rattle.genealogy_svg.specs.{◌>>=◌, placed, drawn_edges_in, IsLaidOut, LeadsRight, edges_to, IsLayered, without_row}
use Rattle.genealogy_svg.proofs.RowsLoop.{All-from_map, is_small_or_not}

-- ---- the height is above each layer

fold_least : (f : Node → ℕ) (es : List PictureEdge) (n : ℕ) → n ≤ fold (λ highest (e : PictureEdge). max highest (f e.from + 1)) n es
fold_least f [] n = omega arith
fold_least f (x ∷ es) n = let later = fold_least f es (max n (f x.from + 1)) in omega (arith, later)

fold_above : (f : Node → ℕ) (es : List PictureEdge) (n : ℕ) (e : PictureEdge) → Contains es e → f e.from < fold (λ highest (x : PictureEdge). max highest (f x.from + 1)) n es
fold_above f [] n e h = absurd (none_in e h)
fold_above f (x ∷ es) n e h =
    let later = fold_least f es (max n (f x.from + 1)) in
    let P : PictureEdge → Type 0 = λ y. f y.from < fold (λ highest (z : PictureEdge). max highest (f z.from + 1)) (max n (f x.from + 1)) es in
    let here : P x = omega (arith, later) in
    ⊎_elim (λ is. subst P is here) (λ there. fold_above f es (max n (f x.from + 1)) e there) (first_or_rest x es e h)

-- ---- what passes is kept

kept_at : {X : Type 0} (p : X → Bool) (y : X) (xs : List X) (x : X) (b : Bool) → p y ≡ b → p x ≡ true → (Contains xs x → Contains (filter p xs) x)
    → Contains (y ∷ xs) x → Contains (cond b (y ∷ filter p xs) (filter p xs)) x
kept_at {X} p y xs x true q e later h =
    let P : X → Type 0 = λ z. Contains (y ∷ filter p xs) z in
    ⊎_elim (λ is. subst P is (first_in y (filter p xs))) (λ there. rest_in y (filter p xs) x (later there)) (first_or_rest y xs x h)
kept_at p y xs x false q e later h =
    ⊎_elim (λ is. absurd (false≢true (sym q ∙ (ap p is ∙ e)))) (λ there. later there) (first_or_rest y xs x h)

kept : {X : Type 0} (p : X → Bool) (xs : List X) (x : X) → p x ≡ true → Contains xs x → Contains (filter p xs) x
kept p [] x e h = absurd (none_in x h)
kept p (y ∷ xs) x e h = kept_at p y xs x (p y) refl e (kept p xs x e) h

-- ---- drawn edges

abbrev value_of : {A : Type 0} → A → Result A LayoutFault → A
value_of other (Ok x) = x
value_of other (Err e) = other

abbrev edges_seen : Drawing → Result Drawing LayoutFault → Result (List DrawnEdge) LayoutFault
edges_seen other r = Ok (value_of other r).edges

module _ (p : Picture) (d : Drawing) (laid : IsLaidOut p d) where
  rises : (e : PictureEdge) → Contains p.edges e → IsLayered laid.layers e.to → rank_of laid.layers e.from < rank_of laid.layers e.to
  rises e h has =
      let P : ℕ → Type 0 = λ n. rank_of laid.layers e.from < n in
      let same : is_keyed node_cmp (Some e.to) e.to ≡ true = sym (node_ties e.to e.to) ∙ node_eq_itself e.to e.to refl in
      subst P (sym (laid.settled.highest e.to has))
      (fold_above (rank_of laid.layers) (edges_to p.edges e.to) 0 e (kept (λ (x : PictureEdge). is_keyed node_cmp (Some x.to) e.to) p.edges e same h))

  right : (e : PictureEdge) (a b : BoxPosition) → Contains p.edges e → get node_cmp laid.positions e.from ≡ Some a → get node_cmp laid.positions e.to ≡ Some b → a.layer < b.layer
  right e a b h from to =
      let up = rises e h (laid.layered e.to (laid.placed.only e.to b to)) in
      let first = laid.placed.layered e.from a from in
      let last = laid.placed.layered e.to b to in
      omega (arith, up, first, last)

  step : (done : List DrawnEdge) (x : PictureEdge) (es : List PictureEdge) (drawn : List DrawnEdge) (a b : Option BoxPosition) → get node_cmp laid.positions x.from ≡ a
      → get node_cmp laid.positions x.to ≡ b → Contains p.edges x → All LeadsRight done
      → ((now : List DrawnEdge) → All LeadsRight now → drawn_edges_in laid.positions now es ≡ Ok drawn → All LeadsRight drawn)
      → (placed x.from a >>= (λ from. placed x.to b >>= (λ to. drawn_edges_in laid.positions (done ++ record { from = from; to = to; amount = x.amount; unit = x.unit; row = None } ∷ []) es))) ≡ Ok drawn
      → All LeadsRight drawn
  step done x es drawn None b f g h all later e = absurd cc
  step done x es drawn (Some a) None f g h all later e = absurd cc
  step done x es drawn (Some a) (Some b) f g h all later e =
      let edge : DrawnEdge = record { from = a; to = b; amount = x.amount; unit = x.unit; row = None } in
      later (done ++ edge ∷ []) (All-push LeadsRight done edge all (right x a b h f g)) e

  each : (done : List DrawnEdge) (es : List PictureEdge) (drawn : List DrawnEdge) → All LeadsRight done → All (Contains p.edges) es → drawn_edges_in laid.positions done es ≡ Ok drawn → All LeadsRight drawn
  each done [] drawn all within e = subst (All LeadsRight) (ap (value_of done) e) all
  each done (x ∷ es) drawn all within e =
      step done x es drawn (get node_cmp laid.positions x.from) (get node_cmp laid.positions x.to) refl refl (All-head (Contains p.edges) x es within) all
      (λ now h f. each now es drawn h (All-tail (Contains p.edges) x es within) f) e

  edges_of : (lots : Result (List DrawnLot) LayoutFault) (batches : Result (List DrawnBatch) LayoutFault) (edges : Result (List DrawnEdge) LayoutFault)
      → (lots >>= (λ ls. batches >>= (λ bs. edges >>= (λ es. Ok (record { lots = ls; batches = bs; edges = es }))))) ≡ Ok laid.bare → edges ≡ Ok laid.bare.edges
  edges_of (Err f) batches edges e = absurd cc
  edges_of (Ok ls) (Err f) edges e = absurd cc
  edges_of (Ok ls) (Ok bs) (Err f) e = absurd cc
  edges_of (Ok ls) (Ok bs) (Ok es) e = ap (edges_seen laid.bare) e

  bare_right : All LeadsRight laid.bare.edges
  bare_right = each [] p.edges laid.bare.edges (All-nil LeadsRight) (λ k x h. Contains-get_or p.edges k x h) (edges_of _ _ _ laid.drawn)

  -- the rows of amounts change nothing
  in_rows : (placed : List DrawnEdge) → map without_row placed ≡ map without_row laid.bare.edges → All LeadsRight placed
  in_rows placed same = All-from_map LeadsRight without_row placed (subst (All LeadsRight) (sym same) (All-map LeadsRight without_row laid.bare.edges bare_right))

  pub leads_right : All LeadsRight d.edges
  leads_right = ⊎_elim
      (λ small. in_rows d.edges (laid.amounts.small small).same)
      (λ large. subst (All LeadsRight) (sym (laid.amounts.large large)) bare_right)
      (is_small_or_not p)
