-- What a recall reaches: as a list, as a test, and as pairs are added.
use Rattle.std.proofs.Common.{◌≡◌, ◌∙◌, ℕ, List, [], ◌∷◌, ◌++◌, sym, subst, ap, inl, inr, ◌⊎◌, ⊎_elim, refl, Contains, ◌↔◌}
use Rattle.std.specs.List.Sorted.{IsStrictlySortedBy}
use Rattle.std.proofs.lemmas.Bool.{or_cases, or_left, or_right}
use Rattle.std.proofs.lemmas.List.Elements.{Contains-append_cases, Contains-append_left, Contains-push, Contains-push_cases}
use Rattle.plant_trace.specs.{LeadsInto, IsEnd, node_cmp, node_eq, step, more, HasEdge, Lists, leads, IsRecalled, RecalledWhereReached, ReachesNone, StaysWhereUnreached, GrowsByNew, Adds}
use Rattle.plant_trace.specs.Reach.{Reach}
use Rattle.plant_trace.specs.declared.node.Node.{Node}
use Rattle.plant_trace.specs.declared.node.Node.TheVariants.{Lot}
use Rattle.plant_trace.proofs.AddingKeepsAcyclic.{UpTo, here, on, farther, first_edge, crosses}
use Rattle.plant_trace.proofs.LeadsIsReach.{leads_where_reached, none_in, still_or_on}
use Rattle.plant_trace.proofs.NodeOrder.{node_eq_exact, node_eq_itself}

-- ---- a list

one_in : (start y : Node) → Contains (start ∷ []) y → y ≡ start
one_in start y h = ⊎_elim (λ n. absurd (none_in y n)) (λ e. sym e) (Contains-push_cases [] start y h)

-- what was found, and the start
pub with_start : (P : Node → Type 0) (start : Node) (prefetch a b : List Node) → Adds prefetch [] a → Adds (start ∷ []) a b → IsStrictlySortedBy node_cmp b → Lists P prefetch → Lists (λ y. (y ≡ start) ⊎ P y) b
with_start P start prefetch a b x z sorted l = record {
  ascending = sorted;
  only = λ y h. ⊎_elim (λ i. inr (l.only y (⊎_elim (λ j. absurd (none_in y j)) (λ j. j) (x.only y i)))) (λ i. inl (one_in start y i)) (z.only y h);
  all = λ y h. ⊎_elim (λ e. z.takes y (subst (Contains (start ∷ [])) (sym e) (Contains-push [] start))) (λ p. z.keeps y (x.takes y (l.all y p))) h;
}

-- ---- a test

pub recalled_where_reached : RecalledWhereReached
recalled_where_reached pairs lot y = (
  λ e. ⊎_elim (λ same. inl (node_eq_exact y (Lot lot) same)) (λ l. inr ((leads_where_reached pairs (Lot lot) y).0 l)) (or_cases _ _ e),
  λ r. ⊎_elim (λ same. or_left (node_eq y (Lot lot)) (leads pairs (Lot lot) y) (node_eq_itself y (Lot lot) same)) (λ s. or_right (node_eq y (Lot lot)) (leads pairs (Lot lot) y) ((leads_where_reached pairs (Lot lot) y).1 s)) r,
)

-- ---- pairs that are added

wider : (pairs added : List (Node × Node)) {a b : Node} → Reach (HasEdge pairs) a b → Reach (HasEdge (pairs ++ added)) a b
wider pairs added (step {a = u} {b = v} e) = step (Contains-append_left pairs added (u, v) e)
wider pairs added (more {a = u} {b = w} {c = v} r e) = more (wider pairs added r) (Contains-append_left pairs added (w, v) e)

module _ (pairs added : List (Node × Node)) (lot : List ℕ) (none : ReachesNone pairs added lot) where
  -- a walk from the lot takes no added pair
  narrower : {a y : Node} → a ≡ Lot lot → Reach (HasEdge (pairs ++ added)) a y → Reach (HasEdge pairs) (Lot lot) y
  narrower {a} {y} is (step e) =
      ⊎_elim
      (λ f. step (subst (λ (x : Node). HasEdge pairs x y) is f))
      (λ f. absurd (none a y f (inl is)))
      (Contains-append_cases pairs added (a, y) e)
  narrower is (more {b = w} {c = v} r e) =
      let s = narrower is r in
      ⊎_elim (λ f. more s f) (λ f. absurd (none w v f (inr s))) (Contains-append_cases pairs added (w, v) e)

  stays : (y : Node) → IsRecalled (pairs ++ added) lot y ↔ IsRecalled pairs lot y
  stays y = (
    λ r. ⊎_elim (λ e. inl e) (λ s. inr (narrower refl s)) r,
    λ r. ⊎_elim (λ e. inl e) (λ s. inr (wider pairs added s)) r,
  )

pub stays_where_unreached : StaysWhereUnreached
stays_where_unreached = stays

module _ (pairs : List (Node × Node)) (lot : List ℕ) (a b : Node) (end : IsEnd b pairs) (two : a ≡ b → ⊥) where
  one_pair : (x y : Node) → HasEdge ((a, b) ∷ []) x y → (x ≡ a) × (y ≡ b)
  one_pair x y e = ⊎_elim
      (λ n. absurd (none_in (x, y) n))
      (λ (same : (a, b) ≡ (x, y)). (sym (ap (λ (q : Node × Node). q.0) same), sym (ap (λ (q : Node × Node). q.1) same)))
      (Contains-push_cases [] (a, b) (x, y) e)

  into : LeadsInto b pairs ((a, b) ∷ [])
  into = record {
    into = λ x y e. (one_pair x y e).1;
    apart = λ x y e same. two (sym (one_pair x y e).0 ∙ same);
    prefetch = λ x y e r. let f = first_edge r in end f.0 f.1;
  }

  -- nothing lies beyond the end
  at_end : {y : Node} → UpTo (HasEdge pairs) b y → y ≡ b
  at_end u = ⊎_elim (λ same. sym same) (λ r. let f = first_edge r in absurd (end f.0 f.1)) (still_or_on u)

  recalled_up : {y : Node} → UpTo (HasEdge pairs) (Lot lot) y → IsRecalled pairs lot y
  recalled_up u = ⊎_elim (λ same. inl (sym same)) (λ r. inr r) (still_or_on u)

  up_recalled : {y : Node} → IsRecalled pairs lot y → UpTo (HasEdge pairs) (Lot lot) y
  up_recalled {y} r = ⊎_elim (λ same. subst (λ (z : Node). UpTo (HasEdge pairs) z y) same here) (λ s. on s) r

  wider_up : {x : Node} → UpTo (HasEdge pairs) (Lot lot) x → UpTo (HasEdge (pairs ++ (a, b) ∷ [])) (Lot lot) x
  wider_up {x} u = ⊎_elim (λ same. subst (λ (z : Node). UpTo (HasEdge (pairs ++ (a, b) ∷ [])) (Lot lot) z) same here) (λ r. on (wider pairs ((a, b) ∷ []) r)) (still_or_on u)

  grows : (y : Node) → IsRecalled (pairs ++ (a, b) ∷ []) lot y ↔ (IsRecalled pairs lot y ⊎ ((y ≡ b) × IsRecalled pairs lot a))
  grows y = (
    λ r. ⊎_elim
        (λ same. inl (inl same))
        (λ s. ⊎_elim
        (λ t. inl (inr t))
        (λ c. inr (at_end c.from, recalled_up (subst (UpTo (HasEdge pairs) (Lot lot)) (one_pair c.x c.y c.added_edge).0 c.to)))
        (crosses b pairs ((a, b) ∷ []) into s))
        r,
    λ r. ⊎_elim
        (λ s. ⊎_elim (λ e. inl e) (λ t. inr (wider pairs ((a, b) ∷ []) t)) s)
        (λ h. inr (subst (Reach (HasEdge (pairs ++ (a, b) ∷ [])) (Lot lot)) (sym h.0) (farther (wider_up (up_recalled h.1)) (Contains-push pairs (a, b)))))
        r,
  )

pub grows_by_new : GrowsByNew
grows_by_new pairs lot a b end two y = grows pairs lot a b end two y
