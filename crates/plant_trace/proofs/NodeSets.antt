-- Sets of nodes, seen as their keys.
use Rattle.std.proofs.Common.{◌≡◌, ℕ, ◌<◌, ◌≤◌, ◌+◌, Bool, true, false, cond, List, [], ◌∷◌, ◌++◌, take, length, get_or, refl, sym, subst, inl, inr, ◌⊎◌, ⊎_elim, ◌∙◌, arith, Contains, ◌↔◌, IsTrue, BTreeSet, length-append}
use Rattle.std.specs.Bool.{OnFalse}
use Rattle.std.specs.BTreeSet.{contains, Updates}
use Rattle.std.proofs.lemmas.List.{take_more, take-append-le}
use Rattle.std.proofs.lemmas.List.Elements.{Contains-append_left, Contains-push_cases, Contains-push}
use Rattle.std.proofs.lemmas.Map.Views.{btree_set_contains_iff, tells_apart}
use Rattle.plant_trace.specs.{node_cmp, node_total, Adds, Queues}
use Rattle.plant_trace.specs.declared.node.Node.{Node}
use Rattle.plant_trace.proofs.NodeOrder.{node_exact}

-- the set has the node, as a test and as a fact
pub has_iff : (s : BTreeSet Node) (k : Node) → IsTrue (contains node_cmp s k) ↔ Contains s.keys k
has_iff = btree_set_contains_iff node_total node_exact

pub none_in : {X : Type 0} (x : X) → Contains [] x → ⊥
none_in x e = omega (arith, e.1)

cond_split : (b c : Bool) → cond b true c ≡ true → (b ≡ true) ⊎ (c ≡ true)
cond_split true c h = inl refl
cond_split false c h = inr h

cond_right : (b c : Bool) → c ≡ true → cond b true c ≡ true
cond_right true c h = refl
cond_right false c h = h

same_length : (b : Bool) (s n : List Node) → length n ≡ length s + cond b 1 0 → OnFalse b (n ≡ s) → length n ≤ length s → n ≡ s
same_length true s n e h l = absurd (omega arith)
same_length false s n e h l = h

at_least : (b : Bool) (s n : List Node) → length n ≡ length s + cond b 1 0 → length s ≤ length n
at_least true s n e = omega arith
at_least false s n e = omega arith

module _ (s n : BTreeSet Node) (k : Node) (u : Updates node_cmp s n k true) where
  pub stays : (y : Node) → Contains s.keys y → Contains n.keys y
  stays y h = (has_iff n y).0 (u.0 y ∙ cond_right _ _ ((has_iff s y).1 h))

  pub comes : Contains n.keys k
  comes = (has_iff n k).0 u.1

  pub came : (y : Node) → Contains n.keys y → (k ≡ y) ⊎ Contains s.keys y
  came y h = ⊎_elim (λ e. inl (tells_apart node_exact k y e)) (λ e. inr ((has_iff s y).0 e)) (cond_split _ _ (sym (u.0 y) ∙ (has_iff n y).1 h))

  -- one more node
  pub Adds-insert : (b : Bool) (xs old : List Node) → length n.keys ≡ length s.keys + cond b 1 0 → OnFalse b (n.keys ≡ s.keys) → Adds xs old s.keys → Adds (xs ++ k ∷ []) old n.keys
  Adds-insert b xs old len same a =
      let more = at_least b s.keys n.keys len in
      record {
        keeps = λ y h. stays y (a.keeps y h);
        takes = λ y h. ⊎_elim (λ i. stays y (a.takes y i)) (λ e. subst (Contains n.keys) e comes) (Contains-push_cases xs k y h);
        only = λ y h. ⊎_elim (λ e. inr (subst (Contains (xs ++ k ∷ [])) e (Contains-push xs k))) (λ i. ⊎_elim inl (λ j. inr (Contains-append_left xs (k ∷ []) y j)) (a.only y i)) (came y h);
        longer = omega (arith, a.longer, more);
        still = λ l. same_length b s.keys n.keys len same (omega (arith, a.longer, more)) ∙ a.still (omega (arith, a.longer, more));
      }

-- the turn of a loop over xs
pub Adds_more : (s n : BTreeSet Node) (xs old : List Node) (i : ℕ) (d : Node) (b : Bool) → i < length xs → Updates node_cmp s n (get_or xs i d) true → length n.keys ≡ length s.keys + cond b 1 0 → OnFalse b (n.keys ≡ s.keys) → Adds (take i xs) old s.keys → Adds (take (i + 1) xs) old n.keys
Adds_more s n xs old i d b l u len same a =
    rw (take_more xs i d l) (Adds-insert s n (get_or xs i d) u b (take i xs) old len same a)

pub Queues-none : (seen queue : List Node) → Queues seen seen queue queue
Queues-none seen queue = record { prefix = λ n h. refl; longer = omega arith; same = λ h. h }

pub Queues-then : (a b c p q r : List Node) → Queues a b p q → Queues b c q r → Queues a c p r
Queues-then a b c p q r x y = record {
  prefix = λ n h. y.prefix n (omega (arith, x.longer, h)) ∙ x.prefix n h;
  longer = omega (arith, x.longer, y.longer);
  same = λ h. y.same (x.same h);
}

-- a node that is new
pub Queues-push : (s n : BTreeSet Node) (k : Node) (queue queue' : List Node) → Updates node_cmp s n k true → queue' ≡ queue ++ k ∷ [] → Queues s.keys n.keys queue queue'
Queues-push s n k queue queue' u e = rw e (record {
  prefix = λ m h. take-append-le m queue (k ∷ []) h;
  longer = omega (arith, length-append queue (k ∷ []));
  same = λ h. record {
    all = λ y i. ⊎_elim (λ t. subst (Contains (queue ++ k ∷ [])) t (Contains-push queue k)) (λ j. Contains-append_left queue (k ∷ []) y (h.all y j)) (came s n k u y i);
    only = λ y i. ⊎_elim (λ j. stays s n k u y (h.only y j)) (λ t. subst (Contains n.keys) t (comes s n k u)) (Contains-push_cases queue k y i);
  };
})

-- a node that was there
pub Queues-still : (s n q : List Node) → n ≡ s → Queues s n q q
Queues-still s n q e = rw e (Queues-none s q)

-- the nodes with P and no others
pub record HasExactly (P : Node → Type 0) (nodes : List Node) : Type 0 where
  pub only : (y : Node) → Contains nodes y → P y
  pub all : (y : Node) → P y → Contains nodes y
