-- How the counts of nodes that wait change.
use Rattle.std.proofs.Common.{◌≡◌, ◌∙◌, ℕ, ◌-◌, ◌<◌, false, List, [], ◌∷◌, ◌++◌, Option, Some, None, refl, sym, ap, subst, inr, ⊎_elim, arith, Contains, BTreeMap, is_eq}
use Rattle.std.specs.BTreeMap.{get, IsEmpty, Updates}
use Rattle.std.proofs.lemmas.Bool.{cases_Bool, cases_eq}
use Rattle.std.proofs.lemmas.List.Elements.{Contains-append_left, Contains-push, Contains-push_cases}
use Rattle.std.proofs.lemmas.Map.Views.{tells_apart}
use Rattle.std.proofs.lemmas.Option.{none-some, same_Some}
use Rattle.plant_trace.specs.{node_cmp, HasEdge, Lists, AreDistinct, AreSoMany, AreWaiting, Awaits, HasCount, HasCounts, IsMentioned}
use Rattle.plant_trace.specs.declared.node.Node.{Node}
use Rattle.plant_trace.proofs.NodeOrder.{node_exact}
use Rattle.plant_trace.proofs.NodeSets.{none_in}
use Rattle.plant_trace.proofs.DistinctNodes.{distinct_none, distinct_push, distinct_sorted, none_of, one_fewer, same_or_not, so_many_same}

-- ---- the same nodes await the same ones

pub waiting_same : (awaits awaits' : Node → Node → Type 0) (N N' : Node → Type 0) (left : BTreeMap Node ℕ) (ready : List Node)
    → ((x v : Node) → awaits x v → awaits' x v) → ((x v : Node) → awaits' x v → awaits x v) → ((x : Node) → N x → N' x) → ((x : Node) → N' x → N x)
    → AreWaiting awaits N left ready → AreWaiting awaits' N' left ready
waiting_same awaits awaits' N N' left ready f g p q w = record {
  distinct = w.distinct;
  apart = w.apart;
  free = λ x v h a. w.free x v h (g x v a);
  counted = λ x n h. let c = w.counted x n h in (so_many_same (awaits x) (awaits' x) n (f x) (g x) c.0, c.1);
  all = λ x h e. w.all x (q x h) e;
  only = λ x h. p x (w.only x h);
  only_left = λ x n h. p x (w.only_left x n h);
}

-- ---- a node's count is noted, or the node is ready

module _ (awaits awaits' : Node → Node → Type 0) (N N' : Node → Type 0) (left left' : BTreeMap Node ℕ) (ready ready' : List Node) (y : Node) (m : ℕ)
    (w : AreWaiting awaits N left ready) (new : Contains ready y → ⊥)
    (down : (x v : Node) → (x ≡ y → ⊥) → awaits' x v → awaits x v) (up : (x v : Node) → (x ≡ y → ⊥) → awaits x v → awaits' x v)
    (many : AreSoMany (awaits' y) m)
    (grown : (x : Node) → N x → N' x) (also : N' y) (was : (x : Node) → (x ≡ y → ⊥) → N' x → N x)
    (others : (x : Node) → (x ≡ y → ⊥) → get node_cmp left' x ≡ get node_cmp left x) where
  elsewhere : (x : Node) → Contains ready x → x ≡ y → ⊥
  elsewhere x h e = new (subst (Contains ready) e h)

  counted_other : (x : Node) (n : ℕ) → (x ≡ y → ⊥) → get node_cmp left' x ≡ Some n → AreSoMany (awaits' x) n × (0 < n)
  counted_other x n ne h =
      let c = w.counted x n (sym (others x ne) ∙ h) in
      (so_many_same (awaits x) (awaits' x) n (λ v. up x v ne) (λ v. down x v ne) c.0, c.1)

  counted_here : 0 < m → get node_cmp left' y ≡ Some m → (x : Node) (n : ℕ) → x ≡ y → get node_cmp left' x ≡ Some n → AreSoMany (awaits' x) n × (0 < n)
  counted_here more here x n e h =
      let same : m ≡ n = same_Some m n (sym here ∙ (ap (get node_cmp left') (sym e) ∙ h)) in
      let now : AreSoMany (awaits' y) n = subst (λ (c : ℕ). AreSoMany (awaits' y) c) same many in
      (subst (λ (z : Node). AreSoMany (awaits' z) n) (sym e) now, omega (arith, same, more))

  left_is_node : (x : Node) (n : ℕ) → get node_cmp left' x ≡ Some n → N' x
  left_is_node x n h = ⊎_elim (λ e. subst N' (sym e) also) (λ ne. grown x (w.only_left x n (sym (others x ne) ∙ h))) (same_or_not x y)

  pub now_waits : 0 < m → get node_cmp left' y ≡ Some m → ready' ≡ ready → AreWaiting awaits' N' left' ready'
  now_waits more here same = rw same (record {
    distinct = w.distinct;
    apart = λ x h. others x (elsewhere x h) ∙ w.apart x h;
    free = λ x v h a. w.free x v h (down x v (elsewhere x h) a);
    counted = λ x n h. ⊎_elim (λ e. counted_here more here x n e h) (λ ne. counted_other x n ne h) (same_or_not x y);
    all = λ x h g. ⊎_elim (λ e. absurd (none-some m (sym g ∙ (ap (get node_cmp left') e ∙ here)))) (λ ne. w.all x (was x ne h) (sym (others x ne) ∙ g)) (same_or_not x y);
    only = λ x h. grown x (w.only x h);
    only_left = left_is_node;
  })

  pub now_ready : m ≡ 0 → get node_cmp left' y ≡ None → ready' ≡ ready ++ y ∷ [] → AreWaiting awaits' N' left' ready'
  now_ready none here same = rw same (record {
    distinct = distinct_push ready y w.distinct new;
    apart = λ x h. ⊎_elim (λ i. others x (elsewhere x i) ∙ w.apart x i) (λ e. ap (get node_cmp left') (sym e) ∙ here) (Contains-push_cases ready y x h);
    free = λ x v h a. ⊎_elim (λ i. w.free x v i (down x v (elsewhere x i) a)) (λ e. none_of (awaits' y) m none many v (subst (λ (z : Node). awaits' z v) (sym e) a)) (Contains-push_cases ready y x h);
    counted = λ x n h. ⊎_elim (λ e. absurd (none-some n (sym here ∙ (ap (get node_cmp left') (sym e) ∙ h)))) (λ ne. counted_other x n ne h) (same_or_not x y);
    all = λ x h g. ⊎_elim (λ e. subst (Contains (ready ++ y ∷ [])) (sym e) (Contains-push ready y)) (λ ne. Contains-append_left ready (y ∷ []) x (w.all x (was x ne h) (sym (others x ne) ∙ g))) (same_or_not x y);
    only = λ x h. ⊎_elim (λ i. grown x (w.only x i)) (λ e. subst N' e also) (Contains-push_cases ready y x h);
    only_left = left_is_node;
  })

-- no node yet
pub waiting_none : (awaits : Node → Node → Type 0) (left : BTreeMap Node ℕ) (ready : List Node) → IsEmpty left → ready ≡ [] → AreWaiting awaits (Contains []) left ready
waiting_none awaits left ready empty none = rw none (record {
  distinct = distinct_none;
  apart = λ x h. absurd (none_in x h);
  free = λ x v h a. none_in x h;
  counted = λ x n h. let gone = rw empty at h in absurd cc;
  all = λ x h e. h;
  only = λ x h. h;
  only_left = λ x n h. let gone = rw empty at h in absurd cc;
})

-- ---- a node is taken, pair by pair

-- v leads to x, isn't taken, and is no pair that was gone over
abbrev pub IsOpen : List (Node × Node) → List Node → Node → List Node → Node → Node → Type 0
IsOpen pairs taken node done x v = HasEdge pairs v x × (Contains taken v → ⊥) × (v ≡ node → Contains done x → ⊥)

module _ (pairs : List (Node × Node)) (taken : List Node) (node : Node) where
  pub open_none : (left : BTreeMap Node ℕ) (ready : List Node) → AreWaiting (Awaits pairs taken) (IsMentioned pairs) left ready → AreWaiting (IsOpen pairs taken node []) (IsMentioned pairs) left ready
  open_none left ready = waiting_same (Awaits pairs taken) (IsOpen pairs taken node []) (IsMentioned pairs) (IsMentioned pairs) left ready
      (λ x v a. (a.0, a.1, λ e h. none_in x h)) (λ x v a. (a.0, a.1)) (λ x h. h) (λ x h. h)

  pub open_all : (after : List Node) (left : BTreeMap Node ℕ) (ready : List Node) → ((y : Node) → HasEdge pairs node y → Contains after y)
      → AreWaiting (IsOpen pairs taken node after) (IsMentioned pairs) left ready → AreWaiting (Awaits pairs (taken ++ node ∷ [])) (IsMentioned pairs) left ready
  open_all after left ready all = waiting_same (IsOpen pairs taken node after) (Awaits pairs (taken ++ node ∷ [])) (IsMentioned pairs) (IsMentioned pairs) left ready
      (λ x v a. (a.0, λ h. ⊎_elim a.1 (λ e. a.2 (sym e) (all x (subst (λ (z : Node). HasEdge pairs z x) (sym e) a.0))) (Contains-push_cases taken node v h)))
      (λ x v a. (a.0, λ h. a.1 (Contains-append_left taken (node ∷ []) v h), λ e h. a.1 (subst (Contains (taken ++ node ∷ [])) (sym e) (Contains-push taken node))))
      (λ x h. h) (λ x h. h)

module _ (pairs : List (Node × Node)) (taken done : List Node) (node y : Node) (left left' : BTreeMap Node ℕ) (ready ready' : List Node)
    (edge : HasEdge pairs node y) (fresh : Contains done y → ⊥) (untaken : Contains taken node → ⊥)
    (w : AreWaiting (IsOpen pairs taken node done) (IsMentioned pairs) left ready)
    (last : get node_cmp left y ≡ Some 1 → (ready' ≡ ready ++ y ∷ []) × HasCount left left' y None)
    (more : (n : ℕ) → get node_cmp left y ≡ Some n → 1 < n → (ready' ≡ ready) × HasCount left left' y (Some (n - 1))) where
  abbrev Then : Node → Node → Type 0
  Then = IsOpen pairs taken node (done ++ y ∷ [])

  fewer : (x v : Node) → (x ≡ y → ⊥) → Then x v → IsOpen pairs taken node done x v
  fewer x v ne a = (a.0, a.1, λ e h. a.2 e (Contains-append_left done (y ∷ []) x h))

  also_open : (x v : Node) → (x ≡ y → ⊥) → IsOpen pairs taken node done x v → Then x v
  also_open x v ne a = (a.0, a.1, λ e h. ⊎_elim (a.2 e) (λ k. ne (sym k)) (Contains-push_cases done y x h))

  many : (n : ℕ) → AreSoMany (IsOpen pairs taken node done y) n → AreSoMany (Then y) (n - 1)
  many n m = one_fewer (IsOpen pairs taken node done y) (Then y) n node (edge, untaken, λ e h. fresh h)
      (λ v a ne. (a.0, a.1, λ e h. ne e))
      (λ v a. ((a.0, a.1, λ e h. a.2 e (Contains-append_left done (y ∷ []) y h)), λ e. a.2 e (Contains-push done y)))
      m

  counted_down_at : (o : Option ℕ) → get node_cmp left y ≡ o → AreWaiting Then (IsMentioned pairs) left' ready'
  counted_down_at None e = absurd (w.free y node (w.all y (node, inr edge) e) (edge, untaken, λ k h. fresh h))
  counted_down_at (Some n) e =
      let c = w.counted y n e in
      let new : Contains ready y → ⊥ = λ h. none-some n (sym (w.apart y h) ∙ e) in
      ⊎_elim
      (λ one. let t = last (e ∙ ap (λ (k : ℕ). Some k) one) in now_ready (IsOpen pairs taken node done) Then (IsMentioned pairs) (IsMentioned pairs) left left' ready ready' y (n - 1) w new fewer also_open (many n c.0) (λ x h. h) (node, inr edge) (λ x ne h. h) t.1.1 (omega (arith, one)) t.1.0 t.0)
      (λ ne. let long : 1 < n = omega (arith, c.1, ne) in let t = more n e long in now_waits (IsOpen pairs taken node done) Then (IsMentioned pairs) (IsMentioned pairs) left left' ready ready' y (n - 1) w new fewer also_open (many n c.0) (λ x h. h) (node, inr edge) (λ x ne h. h) t.1.1 (omega (arith, long)) t.1.0 t.0)
      (cases_eq n 1)

  pub counted_down : AreWaiting Then (IsMentioned pairs) left' ready'
  counted_down = counted_down_at (get node_cmp left y) refl

-- ---- the counts of nodes are noted, one by one

module _ (pairs : List (Node × Node)) (done : List Node) (y : Node) (count : ℕ) (left left' : BTreeMap Node ℕ) (ready ready' : List Node)
    (fresh : Contains done y → ⊥) (w : AreWaiting (Awaits pairs []) (Contains done) left ready) (many : AreSoMany (Awaits pairs [] y) count)
    (none : count ≡ 0 → (ready' ≡ ready ++ y ∷ []) × HasCounts left left')
    (some : 0 < count → (ready' ≡ ready) × HasCount left left' y (Some count)) where
  new_node : Contains ready y → ⊥
  new_node h = fresh (w.only y h)

  no_count : (o : Option ℕ) → get node_cmp left y ≡ o → o ≡ None
  no_count None e = refl
  no_count (Some n) e = absurd (fresh (w.only_left y n e))

  older : (x : Node) → (x ≡ y → ⊥) → Contains (done ++ y ∷ []) x → Contains done x
  older x ne h = ⊎_elim (λ o. o) (λ e. absurd (ne (sym e))) (Contains-push_cases done y x h)

  pub counted_node : AreWaiting (Awaits pairs []) (Contains (done ++ y ∷ [])) left' ready'
  counted_node = ⊎_elim
      (λ e. let t = none e in now_ready (Awaits pairs []) (Awaits pairs []) (Contains done) (Contains (done ++ y ∷ [])) left left' ready ready' y count w new_node (λ x v ne a. a) (λ x v ne a. a) many (Contains-append_left done (y ∷ [])) (Contains-push done y) older (λ x ne. t.1 x) e (t.1 y ∙ no_count (get node_cmp left y) refl) t.0)
      (λ ne. let more : 0 < count = omega (arith, ne) in let t = some more in now_waits (Awaits pairs []) (Awaits pairs []) (Contains done) (Contains (done ++ y ∷ [])) left left' ready ready' y count w new_node (λ x v ne a. a) (λ x v ne a. a) many (Contains-append_left done (y ∷ [])) (Contains-push done y) older t.1.1 more t.1.0 t.0)
      (cases_eq count 0)

-- what is counted are all ends of the pairs
pub counted_all : (pairs seen : List (Node × Node)) (nodes listed : List Node) (left : BTreeMap Node ℕ) (ready : List Node) → seen ≡ pairs → listed ≡ nodes → Lists (IsMentioned pairs) nodes
    → (AreDistinct listed → AreWaiting (Awaits seen []) (Contains listed) left ready) → AreWaiting (Awaits pairs []) (IsMentioned pairs) left ready
counted_all pairs seen nodes listed left ready e f lists counted =
    let distinct : AreDistinct listed = subst AreDistinct (sym f) (distinct_sorted nodes lists.ascending) in
    let here = subst (λ (ps : List (Node × Node)). AreWaiting (Awaits ps []) (Contains listed) left ready) e (counted distinct) in
    waiting_same (Awaits pairs []) (Awaits pairs []) (Contains listed) (IsMentioned pairs) left ready (λ x v a. a) (λ x v a. a)
    (λ x h. lists.only x (subst (λ (l : List Node). Contains l x) f h)) (λ x h. subst (λ (l : List Node). Contains l x) (sym f) (lists.all x h)) here

-- ---- counts in a map

untied : (x q : Node) → (q ≡ x → ⊥) → is_eq (node_cmp x q) ≡ false
untied x q ne = ⊎_elim (λ e. absurd (ne (sym (tells_apart node_exact x q e)))) (λ e. e) (cases_Bool (is_eq (node_cmp x q)))

pub count_put : (old new : BTreeMap Node ℕ) (x : Node) (count : Option ℕ) → Updates node_cmp old new x count → HasCount old new x count
count_put old new x count u = (u.1, λ q ne. u.2 q (untied x q ne))

-- a count is taken out and put back, or not
pub count_then : (old mid new : BTreeMap Node ℕ) (x : Node) (was count : Option ℕ) → HasCount old mid x was → HasCount mid new x count → HasCount old new x count
count_then old mid new x was count a b = (b.0, λ q ne. b.1 q ne ∙ a.1 q ne)

pub count_kept : (old mid new : BTreeMap Node ℕ) (x : Node) (count : Option ℕ) → HasCount old mid x count → HasCounts mid new → HasCount old new x count
count_kept old mid new x count a b = (b x ∙ a.0, λ q ne. b q ∙ a.1 q ne)
