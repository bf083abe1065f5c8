-- What an index has, link by link, and against the pairs.
use Rattle.std.proofs.Common.{◌≡◌, ◌∙◌, Bool, true, false, cond, List, [], Option, Some, None, refl, sym, ap, subst, Contains, IsTrue, ◌&&◌, ◌||◌, unwrap_or, is_eq, BTreeMap, BTreeSet}
use Rattle.std.specs.List.Sorted.{IsStrictlySortedBy}
use Rattle.std.specs.BTreeMap as tree
use Rattle.std.specs.BTreeSet as sorted
use Rattle.std.specs.BTreeMap.{get}
use Rattle.std.specs.BTreeSet.{contains}
use Rattle.std.proofs.lemmas.Bool.{false≢true, and_parts, and_from}
use Rattle.std.proofs.lemmas.List.Folds.{Any-from_list_any, list_any-from_Any}
use Rattle.std.proofs.lemmas.Map.Views.{tells_apart}
use Rattle.plant_trace.specs.{node_cmp, node_eq, node_ties, turned, IsNext, Lists, set_has, index_has, is_pair, pairs_lead, Indexes, Links}
use Rattle.plant_trace.specs.declared.direction.Direction.{Direction}
use Rattle.plant_trace.specs.declared.direction.Direction.TheVariants.{Forward, Back}
use Rattle.plant_trace.specs.declared.node.Node.{Node}
use Rattle.plant_trace.proofs.NodeOrder.{node_exact, node_eq_exact, node_eq_itself}
use Rattle.plant_trace.proofs.NodeSets.{has_iff, none_in}
use Rattle.std.proofs.Math.Bool.{or-false}

-- ---- a link
or_last : (b c : Bool) → cond b true c ≡ (c || b)
or_last true true = refl
or_last true false = refl
or_last false true = refl
or_last false false = refl

-- an empty set counts as no set
default_has : (o : Option (BTreeSet Node)) (empty : BTreeSet Node) → empty.keys ≡ [] → (y : Node) → contains node_cmp (unwrap_or o empty) y ≡ set_has o y
default_has None empty e y = rw e refl
default_has (Some s) empty e y = refl

module _ (old mid new : BTreeMap Node (BTreeSet Node)) (near far : Node) (empty set set' : BTreeSet Node) (no_keys : empty.keys ≡ []) (had : set ≡ unwrap_or (get node_cmp old near) empty) (added : sorted.Updates node_cmp set set' far true) (taken : tree.Updates node_cmp old mid near None) (put : tree.Updates node_cmp mid new near (Some set')) where
  there : (x y : Node) → near ≡ x → contains node_cmp set y ≡ index_has old x y
  there x y e = ap (λ (s : BTreeSet Node). contains node_cmp s y) had ∙ (default_has (get node_cmp old near) empty no_keys y ∙ ap (λ (q : Node). index_has old q y) e)

  linked_at : (x y : Node) (b : Bool) → is_eq (node_cmp near x) ≡ b → index_has new x y ≡ (index_has old x y || (b && node_eq far y))
  linked_at x y true e =
      let here : near ≡ x = tells_apart node_exact near x e in
      let found : get node_cmp new x ≡ Some set' = put.0 x ∙ ap (λ (c : Bool). cond c (Some set') (get node_cmp mid x)) e in
      ap (λ (o : Option (BTreeSet Node)). set_has o y) found
      ∙ (added.0 y
      ∙ (ap (λ (c : Bool). cond c true (contains node_cmp set y)) (sym (node_ties far y))
      ∙ (or_last (node_eq far y) (contains node_cmp set y)
      ∙ ap (λ (c : Bool). c || node_eq far y) (there x y here))))
  linked_at x y false e =
      let left : get node_cmp mid x ≡ get node_cmp old x = taken.0 x ∙ ap (λ (c : Bool). cond c None (get node_cmp old x)) e in
      let found : get node_cmp new x ≡ get node_cmp old x = put.0 x ∙ (ap (λ (c : Bool). cond c (Some set') (get node_cmp mid x)) e ∙ left) in
      ap (λ (o : Option (BTreeSet Node)). set_has o y) found ∙ sym (or-false (index_has old x y))

  pub linked : Links old new near far
  linked x y = linked_at x y (is_eq (node_cmp near x)) refl ∙ ap (λ (c : Bool). index_has old x y || (c && node_eq far y)) (sym (node_ties near x))

-- ---- a lookup
module _ (index : BTreeMap Node (BTreeSet Node)) (x : Node) where
  pub listed_some : (s : BTreeSet Node) → get node_cmp index x ≡ Some s → IsStrictlySortedBy node_cmp s.keys → Lists (λ y. IsTrue (index_has index x y)) s.keys
  listed_some s e ascending = record {
    ascending = ascending;
    only = λ y h. ap (λ (o : Option (BTreeSet Node)). set_has o y) e ∙ (has_iff s y).1 h;
    all = λ y h. (has_iff s y).0 (sym (ap (λ (o : Option (BTreeSet Node)). set_has o y) e) ∙ h);
  }

  pub listed_none : get node_cmp index x ≡ None → Lists (λ y. IsTrue (index_has index x y)) []
  unfolding IsStrictlySortedBy
  listed_none e = record {
    ascending = tt;
    only = λ y h. absurd (none_in y h);
    all = λ y h. absurd (false≢true (sym (ap (λ (o : Option (BTreeSet Node)). set_has o y) e) ∙ h));
  }

-- ---- against the pairs
is_pair_exact : (x y : Node) (p : Node × Node) → is_pair x y p ≡ true → p ≡ (x, y)
is_pair_exact x y p h =
    let b = and_parts (node_eq p.0 x) (node_eq p.1 y) h in
    ap (λ (a : Node). (a, p.1)) (node_eq_exact p.0 x b.0) ∙ ap (λ (a : Node). (x, a)) (node_eq_exact p.1 y b.1)

is_pair_itself : (x y : Node) → is_pair x y (x, y) ≡ true
is_pair_itself x y = and_from (node_eq x x) (node_eq y y) (node_eq_itself x x refl) (node_eq_itself y y refl)

turned_twice : (d : Direction) (p : Node × Node) → turned d (turned d p) ≡ p
turned_twice Forward p = refl
turned_twice Back p = refl

-- a pair, its near end first, is one of the pairs
IsNext-from_Contains : (d : Direction) (pairs : List (Node × Node)) (x y : Node) → Contains pairs (turned d (x, y)) → IsNext d pairs x y
IsNext-from_Contains Forward pairs x y h = h
IsNext-from_Contains Back pairs x y h = h

Contains-from_IsNext : (d : Direction) (pairs : List (Node × Node)) (x y : Node) → IsNext d pairs x y → Contains pairs (turned d (x, y))
Contains-from_IsNext Forward pairs x y h = h
Contains-from_IsNext Back pairs x y h = h

module _ (d : Direction) (pairs : List (Node × Node)) (x y : Node) where
  pairs_lead_consistent : pairs_lead d pairs x y ≡ true → IsNext d pairs x y
  pairs_lead_consistent h =
      let any = Any-from_list_any (λ p. is_pair x y (turned d p)) pairs h in
      let same : any.1 ≡ turned d (x, y) = sym (turned_twice d any.1) ∙ ap (turned d) (is_pair_exact x y (turned d any.1) any.4) in
      IsNext-from_Contains d pairs x y (subst (Contains pairs) same (any.0, any.2, any.3))

  pairs_lead_complete : IsNext d pairs x y → pairs_lead d pairs x y ≡ true
  pairs_lead_complete h =
      let c = Contains-from_IsNext d pairs x y h in
      list_any-from_Any (λ p. is_pair x y (turned d p)) pairs (c.0, turned d (x, y), c.1, c.2, ap (is_pair x y) (turned_twice d (x, y)) ∙ is_pair_itself x y)

-- what an index lists is what the pairs lead to
pub listed_next : (d : Direction) (pairs : List (Node × Node)) (index : BTreeMap Node (BTreeSet Node)) (x : Node) (nodes : List Node) → Indexes d pairs index → Lists (λ y. IsTrue (index_has index x y)) nodes → Lists (IsNext d pairs x) nodes
listed_next d pairs index x nodes i l = record {
  ascending = l.ascending;
  only = λ y h. pairs_lead_consistent d pairs x y (sym (i x y) ∙ l.only y h);
  all = λ y h. l.all y (i x y ∙ pairs_lead_complete d pairs x y h);
}
