-- Lists with no node twice, and how many nodes have a property.
use Rattle.std.proofs.Common.{◌≡◌, ◌∙◌, ℕ, ◌+◌, ◌-◌, ◌<◌, Bool, true, false, List, [], ◌∷◌, ◌++◌, take, length, get_or, refl, sym, subst, inl, inr, ◌⊎◌, ⊎_elim, arith, Contains, ◌↔◌, IsTrue, Less, remove, IsPermutation, get_or-take, length-take-le}
use Rattle.std.specs.List.Sorted.{IsStrictlySortedBy}
use Rattle.std.specs.BTreeSet.{contains}
use Rattle.std.proofs.lemmas.Bool.{false≢true, cases_lt, cases_order}
use Rattle.std.proofs.lemmas.Cmp.{tied_itself}
use Rattle.std.proofs.lemmas.List.{get_or_default}
use Rattle.std.proofs.lemmas.List.Edits.{length-remove, get_or-remove_below, get_or-remove_above}
use Rattle.std.proofs.lemmas.List.Quantifiers.{all_pairs_push, all_pairs_remove}
use Rattle.std.proofs.lemmas.List.Sorted.{IsPermutation-remove, IsPermutation-sym, Contains-permutation}
use Rattle.std.proofs.lemmas.Map.Keys.{Less-from_sorted}
use Rattle.plant_trace.specs.{node_cmp, node_eq, node_total, Lists, AreDistinct, AreSoMany}
use Rattle.plant_trace.specs.declared.node.Node.{Node}
use Rattle.plant_trace.proofs.NodeOrder.{node_eq_decides}
use Rattle.plant_trace.proofs.NodeSets.{has_iff}
use Rattle.plant_trace.proofs.LeadsIsReach.{first_in, rest_in, first_or_rest}
use Rattle.plant_trace.proofs.SortedNodes.{set_of}

-- ---- cases

pub decided : (b : Bool) (P : Type 0) → (IsTrue b ↔ P) → P ⊎ (P → ⊥)
decided true P h = inl (h.0 refl)
decided false P h = inr (λ p. false≢true (h.1 p))

pub in_or_not : (xs : List Node) (x : Node) → Contains xs x ⊎ (Contains xs x → ⊥)
in_or_not xs x = decided (contains node_cmp (set_of xs) x) (Contains xs x) (has_iff (set_of xs) x)

pub same_or_not : (x y : Node) → (x ≡ y) ⊎ (x ≡ y → ⊥)
same_or_not x y = decided (node_eq x y) (x ≡ y) (node_eq_decides x y)

-- ---- lists with no node twice

pub distinct_none : AreDistinct []
distinct_none i j d l h = absurd (omega arith)

pub distinct_push : (xs : List Node) (x : Node) → AreDistinct xs → (Contains xs x → ⊥) → AreDistinct (xs ++ x ∷ [])
distinct_push xs x d absent = all_pairs_push (λ (a b : Node). a ≡ b → ⊥) xs x d (λ k e h same. absent (k, h, get_or_default xs k x e h ∙ same))

pub distinct_sorted : (xs : List Node) → IsStrictlySortedBy node_cmp xs → AreDistinct xs
distinct_sorted xs s i j d l h e =
    let less = Less-from_sorted node_cmp xs i j d s l h in
    let tied = tied_itself node_total (get_or xs i d) in
    let at : node_cmp (get_or xs i d) (get_or xs i d) ≡ Less = subst (λ (y : Node). node_cmp (get_or xs i d) y ≡ Less) (sym e) less in
    cc

-- a node is at one position
pub distinct_at : (xs : List Node) → AreDistinct xs → (i j : ℕ) (x : Node) → i < length xs → j < length xs → get_or xs i x ≡ x → get_or xs j x ≡ x → i ≡ j
distinct_at xs d i j x a b p q =
    ⊎_elim (λ e. e) (λ o. ⊎_elim (λ l. absurd (d i j x l b (p ∙ sym q))) (λ l. absurd (d j i x l a (q ∙ sym p))) o) (cases_order i j)

-- a node isn't before its position
pub not_before : (xs : List Node) (i : ℕ) (d : Node) → AreDistinct xs → i < length xs → Contains (take i xs) (get_or xs i d) → ⊥
not_before xs i d s h (k, l, e) =
    let len : length (take i xs) ≡ i = length-take-le i xs (omega (arith, h)) in
    let below : k < i = omega (arith, l, len) in
    s k i d below h (get_or_default xs k d (get_or xs i d) (omega (arith, below, h)) ∙ (sym (get_or-take i xs k (get_or xs i d) below) ∙ e))

module _ (xs : List Node) (x : Node) (n : ℕ) (within : n < length xs) (is : get_or xs n x ≡ x) (d : AreDistinct xs) where
  moved : IsPermutation xs (x ∷ remove xs n)
  moved = IsPermutation-remove xs n x within (sym is)

  pub distinct_remove : AreDistinct (remove xs n)
  distinct_remove = all_pairs_remove (λ (a b : Node). a ≡ b → ⊥) xs n within d

  pub remove_only : (y : Node) → Contains (remove xs n) y → Contains xs y
  remove_only y h = Contains-permutation (x ∷ remove xs n) xs y (IsPermutation-sym xs (x ∷ remove xs n) moved) (rest_in x (remove xs n) y h)

  pub remove_all : (y : Node) → Contains xs y → (y ≡ x → ⊥) → Contains (remove xs n) y
  remove_all y h absent = ⊎_elim (λ e. absurd (absent (sym e))) (λ r. r) (first_or_rest x (remove xs n) y (Contains-permutation xs (x ∷ remove xs n) y moved h))

  pub remove_not : Contains (remove xs n) x → ⊥
  remove_not (k, l, e) =
      let len = length-remove xs n within in
      ⊎_elim
      (λ below. let one = distinct_at xs d k n x (omega (arith, below, within)) within (sym (get_or-remove_below xs n x k below within) ∙ e) is in omega (arith, one, below))
      (λ above. let one = distinct_at xs d (k + 1) n x (omega (arith, l, len)) within (sym (get_or-remove_above xs n x k above within) ∙ e) is in omega (arith, one, above))
      (cases_lt k n)

-- ---- how many nodes have a property

first_node : (xs : List Node) → 0 < length xs → (y : Node) × Contains xs y
first_node [] h = absurd (omega arith)
first_node (y ∷ ys) h = (y, first_in y ys)

pub some_of : (P : Node → Type 0) (n : ℕ) → 0 < n → AreSoMany P n → (y : Node) × P y
some_of P n h m = let f = first_node m.nodes (omega (arith, h, m.counted)) in (f.0, m.only f.0 f.1)

pub none_of : (P : Node → Type 0) (n : ℕ) → n ≡ 0 → AreSoMany P n → (y : Node) → P y → ⊥
none_of P n e m y p = let c = m.all y p in omega (arith, e, m.counted, c.1)

pub so_many_listed : (P : Node → Type 0) (nodes : List Node) (n : ℕ) → n ≡ length nodes → Lists P nodes → AreSoMany P n
so_many_listed P nodes n e l = record {
  nodes = nodes;
  distinct = distinct_sorted nodes l.ascending;
  only = l.only;
  all = l.all;
  counted = e;
}

pub so_many_same : (P Q : Node → Type 0) (n : ℕ) → ((y : Node) → P y → Q y) → ((y : Node) → Q y → P y) → AreSoMany P n → AreSoMany Q n
so_many_same P Q n f g m = record {
  nodes = m.nodes;
  distinct = m.distinct;
  only = λ y h. f y (m.only y h);
  all = λ y h. m.all y (g y h);
  counted = m.counted;
}

-- one node has the property no more
pub one_fewer : (P Q : Node → Type 0) (n : ℕ) (x : Node) → P x → ((y : Node) → P y → (y ≡ x → ⊥) → Q y) → ((y : Node) → Q y → P y × (y ≡ x → ⊥)) → AreSoMany P n → AreSoMany Q (n - 1)
one_fewer P Q n x here f g m =
    let (at, within, is) = m.all x here in
    record {
      nodes = remove m.nodes at;
      distinct = distinct_remove m.nodes x at within is m.distinct;
      only = λ y h. f y (m.only y (remove_only m.nodes x at within is m.distinct y h)) (λ e. remove_not m.nodes x at within is m.distinct (subst (Contains (remove m.nodes at)) e h));
      all = λ y h. let q = g y h in remove_all m.nodes x at within is m.distinct y (m.all y q.0) q.1;
      counted = omega (arith, m.counted, length-remove m.nodes at within);
    }
