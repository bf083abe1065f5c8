-- What the marks are, and what commands do to them.
use Rattle.std.proofs.Common.{◌≡◌, ◌∙◌, ℕ, Bool, true, false, cond, List, [], ◌∷◌, ◌++◌, map, filter, sym, subst, ap, inl, inr, ⊎_elim, refl, Contains, ◌↔◌, ◌&&◌, ◌==◌, not, flat_map, nat_cmp, Ordering, Less, Equal, Greater, eqb-true, eq-eqb}
use Rattle.std.specs.List.{AllByRecursion}
use Rattle.std.specs.List.Sorted.{IsStrictlySortedBy}
use Rattle.std.specs.Cmp.{IsTotalOrder}
use Rattle.std.specs.Cmp.Lexicographic.{nat_list_cmp_total}
use Rattle.std.specs.Ordering.{ordering_then}
use Rattle.std.proofs.lemmas.Bool.{false≢true, and_from, and_parts}
use Rattle.std.proofs.lemmas.Cmp.{on_total, tied_itself}
use Rattle.std.proofs.lemmas.List.Kept.{IsStrictlySortedBy-filter}
use Rattle.std.proofs.lemmas.Map.Lookups.{CmpEqualImpliesEq, exact_bytes}
use Rattle.plant_base.specs.{same, put, id_cmp, recall_order, is_open, mark_kind_number, mark_order, mark_total, Mark, MarkKind, Recall}
use Rattle.plant_base.proofs.KeyOrders.{same_id, same_itself}
use Rattle.plant_trace.specs.{IsEnd, Lists, leads, IsRecalled, is_recalled, ReachesNone, Node}
use Rattle.plant_trace.specs.declared.node.Node.TheVariants as node
use Rattle.plant_trace.proofs.AddingKeepsAcyclic.{last_edge}
use Rattle.plant_trace.proofs.LeadsIsReach.{none_in, first_in, rest_in, first_or_rest, leads_where_reached}
use Rattle.plant_trace.proofs.RecallReaches.{recalled_where_reached, stays_where_unreached, grows_by_new}
use Rattle.plant_view.specs.{mark_on, node_at, node_of, nodes_from, marks_of, marks, Reaches, recalls_on, is_on, put_all, AreThePairs, StayWhereUnreached, GrowByProduct, ComeWithRecall, GoWithLift, AreOnNode}
use Rattle.plant_base.specs.declared.rows.MarkKind.TheVariants as kind
use Rattle.plant_view.proofs.RowKeys.{both_tie}
use Rattle.plant_view.proofs.Membership.{all_at, map_in, map_from, filter_in, filter_from, flat_in, flat_from, put_in, put_from, put_past, put_once, all_stay, all_in, one_list, put_all_from, sorted_put_all, map_sorted}

-- ---- the order of marks

kinds_exact : (k j : MarkKind) → nat_cmp (mark_kind_number k) (mark_kind_number j) ≡ Equal → k ≡ j
kinds_exact kind.Lot kind.Lot e = refl
kinds_exact kind.Lot kind.Batch e = absurd cc
kinds_exact kind.Batch kind.Lot e = absurd cc
kinds_exact kind.Batch kind.Batch e = refl

pub mark_exact : CmpEqualImpliesEq mark_order
mark_exact a b e =
    let outer = both_tie (id_cmp a.recall b.recall) _ e in
    let inner = both_tie (nat_cmp (mark_kind_number a.kind) (mark_kind_number b.kind)) _ outer.1 in
    λ i. record { recall = exact_bytes a.recall b.recall outer.0 i; kind = kinds_exact a.kind b.kind inner.0 i; id = exact_bytes a.id b.id inner.1 i }

-- ---- a mark and its node

pub node_on : (recall : List ℕ) (y : Node) → node_of (mark_on recall y) ≡ y
node_on recall (node.Lot id) = refl
node_on recall (node.Batch id) = refl

pub recall_on : (recall : List ℕ) (y : Node) → (mark_on recall y).recall ≡ recall
recall_on recall (node.Lot id) = refl
recall_on recall (node.Batch id) = refl

on_by : (recall : List ℕ) (k : MarkKind) (id : List ℕ) → mark_on recall (node_at k id) ≡ record { recall = recall; kind = k; id = id }
on_by recall kind.Lot id = refl
on_by recall kind.Batch id = refl

pub on_node : (m : Mark) → mark_on m.recall (node_of m) ≡ m
on_node m = on_by m.recall m.kind m.id

-- ---- the nodes of one recall

pub nodes_iff : (pairs : List (Node × Node)) (lot : List ℕ) (y : Node) → Contains (nodes_from pairs lot) y ↔ IsRecalled pairs lot y
nodes_iff pairs lot y = (
  λ h. ⊎_elim (λ e. inl (sym e)) (λ r. inr ((leads_where_reached pairs start y).0 (filter_from (leads pairs start) ends y r).1)) (first_or_rest start (filter (leads pairs start) ends) y h),
  λ r. ⊎_elim (λ e. subst (λ (z : Node). Contains (nodes_from pairs lot) z) (sym e) (first_in start (filter (leads pairs start) ends))) (λ s. rest_in start (filter (leads pairs start) ends) y (filter_in (leads pairs start) ends y (let last = last_edge s in map_in (λ (p : Node × Node). p.1) pairs (last.0, y) last.1) ((leads_where_reached pairs start y).1 s))) r,
)
  where
    start : Node
    start = node.Lot lot

    ends : List Node
    ends = map (λ p. p.1) pairs

-- ---- all marks

module _ (recalls : List Recall) (pairs : List (Node × Node)) where
  pub marks_sorted : IsStrictlySortedBy mark_order (marks recalls pairs)
  unfolding IsStrictlySortedBy marks
  marks_sorted = sorted_put_all mark_order mark_total (flat_map (marks_of pairs) recalls) [] tt

  one_marks : (r : Recall) (m : Mark) → Contains (marks_of pairs r) m → (is_open r ≡ true) × ((r.id ≡ m.recall) × IsRecalled pairs r.lot (node_of m))
  one_marks r m h = by (is_open r) refl h
    where
      by : (b : Bool) → is_open r ≡ b → Contains (cond b (map (mark_on r.id) (nodes_from pairs r.lot)) []) m → (is_open r ≡ true) × ((r.id ≡ m.recall) × IsRecalled pairs r.lot (node_of m))
      by true e i =
          let f = map_from (mark_on r.id) (nodes_from pairs r.lot) m i in
          (e, (sym (recall_on r.id f.0) ∙ ap (λ (x : Mark). x.recall) f.1.1, subst (IsRecalled pairs r.lot) (sym (node_on r.id f.0) ∙ ap node_of f.1.1) ((nodes_iff pairs r.lot f.0).0 f.1.0)))
      by false e i = absurd (none_in m i)

  marks_one : (r : Recall) (y : Node) → is_open r ≡ true → IsRecalled pairs r.lot y → Contains (marks_of pairs r) (mark_on r.id y)
  marks_one r y unlifted h = subst (λ (b : Bool). Contains (cond b (map (mark_on r.id) (nodes_from pairs r.lot)) []) (mark_on r.id y)) (sym unlifted) (map_in (mark_on r.id) (nodes_from pairs r.lot) y ((nodes_iff pairs r.lot y).1 h))

  pub marks_only : (m : Mark) → Contains (marks recalls pairs) m → Reaches recalls pairs m.recall (node_of m)
  unfolding marks
  marks_only m h = ⊎_elim
      (λ i.
      let f = flat_from (marks_of pairs) recalls m i in
      let o = one_marks f.0 m f.1.1 in
      record { by = f.0; listed = f.1.0; unlifted = o.0; named = o.1.0; reaches = o.1.1 })
      (λ n. absurd (none_in m n))
      (put_all_from mark_order mark_total (flat_map (marks_of pairs) recalls) m [] h)

  pub marks_all : (m : Mark) → Reaches recalls pairs m.recall (node_of m) → Contains (marks recalls pairs) m
  unfolding marks
  marks_all m h =
      let there = marks_one h.by (node_of m) h.unlifted h.reaches in
      let same : mark_on h.by.id (node_of m) ≡ m = ap (λ (i : List ℕ). mark_on i (node_of m)) h.named ∙ on_node m in
      all_in mark_order mark_total mark_exact (flat_map (marks_of pairs) recalls) m [] (flat_in (marks_of pairs) recalls h.by m h.listed (subst (Contains (marks_of pairs h.by)) same there))

pub are_the_pairs : AreThePairs
are_the_pairs recalls pairs = (marks_sorted recalls pairs, λ m. (marks_only recalls pairs m, marks_all recalls pairs m))

-- marks of other recalls and pairs are those rows, where just the same is reached
pub same_marks : (recalls : List Recall) (pairs : List (Node × Node)) (rows : List Mark) → IsStrictlySortedBy mark_order rows → ((m : Mark) → Reaches recalls pairs m.recall (node_of m) → Contains rows m) → ((m : Mark) → Contains rows m → Reaches recalls pairs m.recall (node_of m)) → marks recalls pairs ≡ rows
same_marks recalls pairs rows sorted all only =
    one_list mark_order mark_total mark_exact (marks recalls pairs) rows (marks_sorted recalls pairs) sorted (λ m h. all m (marks_only recalls pairs m h)) (λ m h. marks_all recalls pairs m (only m h))

-- ---- edges that begin at nothing marked

pub stay_where_unreached : StayWhereUnreached
stay_where_unreached recalls pairs added none =
    same_marks recalls (pairs ++ added) (marks recalls pairs) (marks_sorted recalls pairs)
    (λ m h. marks_all recalls pairs m (record { by = h.by; listed = h.listed; unlifted = h.unlifted; named = h.named; reaches = (still h.by h.listed h.unlifted (node_of m)).0 h.reaches }))
    (λ m h. let r = marks_only recalls pairs m h in record { by = r.by; listed = r.listed; unlifted = r.unlifted; named = r.named; reaches = (still r.by r.listed r.unlifted (node_of m)).1 r.reaches })
  where
    still : (r : Recall) → Contains recalls r → is_open r ≡ true → (y : Node) → IsRecalled (pairs ++ added) r.lot y ↔ IsRecalled pairs r.lot y
    still r h unlifted y = stays_where_unreached pairs added r.lot (all_at (λ (q : Recall). is_open q ≡ true → ReachesNone pairs added q.lot) recalls r none h unlifted) y

-- ---- an edge into a new node

module _ (recalls : List Recall) (pairs : List (Node × Node)) (a b : Node) (end : IsEnd b pairs) (two : a ≡ b → ⊥) where
  abbrev new_rows : List Mark
  new_rows = map (λ r. mark_on r.id b) (recalls_on recalls pairs a)

  grown_all : (m : Mark) → Reaches recalls (pairs ++ (a, b) ∷ []) m.recall (node_of m) → Contains (put_all mark_order new_rows (marks recalls pairs)) m
  grown_all m h = ⊎_elim
      (λ r. all_stay mark_order mark_total mark_exact new_rows m (marks recalls pairs) (marks_all recalls pairs m (record { by = h.by; listed = h.listed; unlifted = h.unlifted; named = h.named; reaches = r })))
      (λ g.
      let listed = filter_in (λ r. is_open r && is_recalled pairs r.lot a) recalls h.by h.listed (and_from (is_open h.by) (is_recalled pairs h.by.lot a) h.unlifted ((recalled_where_reached pairs h.by.lot a).1 g.1)) in
      let same : mark_on h.by.id b ≡ m = ap (λ (y : Node). mark_on h.by.id y) (sym g.0) ∙ (ap (λ (i : List ℕ). mark_on i (node_of m)) h.named ∙ on_node m) in
      all_in mark_order mark_total mark_exact new_rows m (marks recalls pairs) (subst (Contains new_rows) same (map_in (λ r. mark_on r.id b) (recalls_on recalls pairs a) h.by listed)))
      ((grows_by_new pairs h.by.lot a b end two (node_of m)).0 h.reaches)

  grown_only : (m : Mark) → Contains (put_all mark_order new_rows (marks recalls pairs)) m → Reaches recalls (pairs ++ (a, b) ∷ []) m.recall (node_of m)
  grown_only m h = ⊎_elim
      (λ i.
      let f = map_from (λ (r : Recall). mark_on r.id b) (recalls_on recalls pairs a) m i in
      let g = filter_from (λ r. is_open r && is_recalled pairs r.lot a) recalls f.0 f.1.0 in
      let parts = and_parts (is_open f.0) (is_recalled pairs f.0.lot a) g.1 in
      let at : node_of m ≡ b = sym (ap node_of f.1.1) ∙ node_on f.0.id b in
      record { by = f.0; listed = g.0; unlifted = parts.0; named = sym (recall_on f.0.id b) ∙ ap (λ (x : Mark). x.recall) f.1.1; reaches = (grows_by_new pairs f.0.lot a b end two (node_of m)).1 (inr (at, (recalled_where_reached pairs f.0.lot a).0 parts.1)) })
      (λ i. let r = marks_only recalls pairs m i in record { by = r.by; listed = r.listed; unlifted = r.unlifted; named = r.named; reaches = (grows_by_new pairs r.by.lot a b end two (node_of m)).1 (inl r.reaches) })
      (put_all_from mark_order mark_total new_rows m (marks recalls pairs) h)

  grown : marks recalls (pairs ++ (a, b) ∷ []) ≡ put_all mark_order new_rows (marks recalls pairs)
  grown = same_marks recalls (pairs ++ (a, b) ∷ []) (put_all mark_order new_rows (marks recalls pairs)) (sorted_put_all mark_order mark_total new_rows (marks recalls pairs) (marks_sorted recalls pairs)) grown_all grown_only

pub grow_by_product : GrowByProduct
grow_by_product recalls pairs a b end two = grown recalls pairs a b end two

-- ---- a recall

same_of : (i j : List ℕ) → i ≡ j → same i j ≡ true
same_of i j e = subst (λ (k : List ℕ). same i k ≡ true) e (same_itself i)

-- rows whose ids are not the same don't tie
apart_from : (r q : Recall) → same q.id r.id ≡ false → recall_order r q ≡ Equal → ⊥
apart_from r q apart e = false≢true (sym apart ∙ same_of q.id r.id (sym (exact_bytes r.id q.id e)))

module _ (recalls : List Recall) (pairs : List (Node × Node)) (r : Recall) (nodes : List Node) (fresh : AllByRecursion (λ q. same q.id r.id ≡ false) recalls) (unlifted : is_open r ≡ true) (lists : Lists (IsRecalled pairs r.lot) nodes) where
  abbrev come_rows : List Mark
  come_rows = map (mark_on r.id) nodes

  come_all : (m : Mark) → Reaches (put recall_order r recalls) pairs m.recall (node_of m) → Contains (put_all mark_order come_rows (marks recalls pairs)) m
  come_all m h = ⊎_elim
      (λ (e : h.by ≡ r).
      let at = lists.all (node_of m) (subst (λ (q : Recall). IsRecalled pairs q.lot (node_of m)) e h.reaches) in
      let same : mark_on r.id (node_of m) ≡ m = ap (λ (i : List ℕ). mark_on i (node_of m)) (ap (λ (q : Recall). q.id) (sym e) ∙ h.named) ∙ on_node m in
      all_in mark_order mark_total mark_exact come_rows m (marks recalls pairs) (subst (Contains come_rows) same (map_in (mark_on r.id) nodes (node_of m) at)))
      (λ i. all_stay mark_order mark_total mark_exact come_rows m (marks recalls pairs) (marks_all recalls pairs m (record { by = h.by; listed = i; unlifted = h.unlifted; named = h.named; reaches = h.reaches })))
      (put_from recall_order r h.by recalls h.listed)

  come_only : (m : Mark) → Contains (put_all mark_order come_rows (marks recalls pairs)) m → Reaches (put recall_order r recalls) pairs m.recall (node_of m)
  come_only m h = ⊎_elim
      (λ i.
      let f = map_from (mark_on r.id) nodes m i in
      record { by = r; listed = put_in recall_order r recalls; unlifted = unlifted; named = sym (recall_on r.id f.0) ∙ ap (λ (x : Mark). x.recall) f.1.1; reaches = subst (IsRecalled pairs r.lot) (sym (node_on r.id f.0) ∙ ap node_of f.1.1) (lists.only f.0 f.1.0) })
      (λ i.
      let s = marks_only recalls pairs m i in
      record { by = s.by; listed = put_past recall_order r s.by recalls (apart_from r s.by (all_at (λ (q : Recall). same q.id r.id ≡ false) recalls s.by fresh s.listed)) s.listed; unlifted = s.unlifted; named = s.named; reaches = s.reaches })
      (put_all_from mark_order mark_total come_rows m (marks recalls pairs) h)

  come : marks (put recall_order r recalls) pairs ≡ put_all mark_order come_rows (marks recalls pairs)
  come = same_marks (put recall_order r recalls) pairs (put_all mark_order come_rows (marks recalls pairs)) (sorted_put_all mark_order mark_total come_rows (marks recalls pairs) (marks_sorted recalls pairs)) come_all come_only

pub come_with_recall : ComeWithRecall
come_with_recall recalls pairs r nodes fresh unlifted lists = come recalls pairs r nodes fresh unlifted lists

-- ---- a lift

pub recall_total : IsTotalOrder recall_order
recall_total = on_total (λ r. r.id) nat_list_cmp_total

-- a recall that is another's row or has another id
module _ (recalls : List Recall) (pairs : List (Node × Node)) (r : Recall) (sorted : IsStrictlySortedBy recall_order recalls) (lifted : is_open r ≡ false) where
  abbrev kept : Mark → Bool
  kept m = not (same m.recall r.id)

  not_true : (b : Bool) → not b ≡ true → b ≡ true → ⊥
  not_true true n t = false≢true n
  not_true false n t = false≢true t

  not_same : (b : Bool) → (b ≡ true → ⊥) → not b ≡ true
  not_same true f = absurd (f refl)
  not_same false f = refl

  tie_of : (q : Recall) → q.id ≡ r.id → recall_order r q ≡ Equal
  tie_of q e = ap (λ (i : List ℕ). id_cmp r.id i) e ∙ tied_itself recall_total r

  go_all : (m : Mark) → Reaches (put recall_order r recalls) pairs m.recall (node_of m) → Contains (filter kept (marks recalls pairs)) m
  go_all m h = ⊎_elim
      (λ (e : h.by ≡ r). absurd (false≢true (sym lifted ∙ ap is_open (sym e) ∙ h.unlifted)))
      (λ i. filter_in kept (marks recalls pairs) m (marks_all recalls pairs m (record { by = h.by; listed = i; unlifted = h.unlifted; named = h.named; reaches = h.reaches })) (not_same (same m.recall r.id) (λ t.
      let one : h.by ≡ r = put_once recall_order recall_total r h.by recalls sorted h.listed (tie_of h.by (h.named ∙ same_id m.recall r.id t)) in
      false≢true (sym lifted ∙ ap is_open (sym one) ∙ h.unlifted))))
      (put_from recall_order r h.by recalls h.listed)

  go_only : (m : Mark) → Contains (filter kept (marks recalls pairs)) m → Reaches (put recall_order r recalls) pairs m.recall (node_of m)
  go_only m h =
      let f = filter_from kept (marks recalls pairs) m h in
      let s = marks_only recalls pairs m f.0 in
      record {
        by = s.by;
        listed = put_past recall_order r s.by recalls (λ e. not_true (same m.recall r.id) f.1 (same_of m.recall r.id (sym s.named ∙ sym (exact_bytes r.id s.by.id e)))) s.listed;
        unlifted = s.unlifted;
        named = s.named;
        reaches = s.reaches;
      }

  go : marks (put recall_order r recalls) pairs ≡ filter kept (marks recalls pairs)
  go = same_marks (put recall_order r recalls) pairs (filter kept (marks recalls pairs)) (IsStrictlySortedBy-filter mark_order kept (marks recalls pairs) (marks_sorted recalls pairs)) go_all go_only

pub go_with_lift : GoWithLift
go_with_lift recalls pairs r sorted lifted = go recalls pairs r sorted lifted

-- ---- the marks on a node

same_number_kind : (k j : MarkKind) → mark_kind_number k ≡ mark_kind_number j → k ≡ j
same_number_kind kind.Lot kind.Lot e = refl
same_number_kind kind.Lot kind.Batch e = absurd cc
same_number_kind kind.Batch kind.Lot e = absurd cc
same_number_kind kind.Batch kind.Batch e = refl

kind_on : (recall : List ℕ) (k : MarkKind) (id : List ℕ) → (mark_on recall (node_at k id)).kind ≡ k
kind_on recall kind.Lot id = refl
kind_on recall kind.Batch id = refl

id_on : (recall : List ℕ) (k : MarkKind) (id : List ℕ) → (mark_on recall (node_at k id)).id ≡ id
id_on recall kind.Lot id = refl
id_on recall kind.Batch id = refl

then_less : (o p : Ordering) → o ≡ Less → ordering_then o p ≡ Less
then_less Less p e = refl
then_less Equal p e = absurd cc
then_less Greater p e = absurd cc

module _ (recalls : List Recall) (pairs : List (Node × Node)) (k : MarkKind) (id : List ℕ) (sorted : IsStrictlySortedBy recall_order recalls) where
  abbrev on : Recall → Mark
  on r = mark_on r.id (node_at k id)

  abbrev these : List Recall
  these = recalls_on recalls pairs (node_at k id)

  rises : (a b : Recall) → recall_order a b ≡ Less → mark_order (on a) (on b) ≡ Less
  rises a b e = then_less (id_cmp (on a).recall (on b).recall) _ ((λ i. id_cmp (recall_on a.id (node_at k id) i) (recall_on b.id (node_at k id) i)) ∙ e)

  on_down : (m : Mark) → Contains (filter (is_on k id) (marks recalls pairs)) m → Contains (map on these) m
  on_down m h =
      let f = filter_from (is_on k id) (marks recalls pairs) m h in
      let s = marks_only recalls pairs m f.0 in
      let test = and_parts (mark_kind_number m.kind == mark_kind_number k) (same m.id id) f.1 in
      let kinds : m.kind ≡ k = same_number_kind m.kind k (eqb-true (mark_kind_number m.kind) (mark_kind_number k) test.0) in
      let ids : m.id ≡ id = same_id m.id id test.1 in
      let at : node_of m ≡ node_at k id = λ i. node_at (kinds i) (ids i) in
      let listed = filter_in (λ r. is_open r && is_recalled pairs r.lot (node_at k id)) recalls s.by s.listed (and_from (is_open s.by) (is_recalled pairs s.by.lot (node_at k id)) s.unlifted ((recalled_where_reached pairs s.by.lot (node_at k id)).1 (subst (IsRecalled pairs s.by.lot) at s.reaches))) in
      let same_mark : on s.by ≡ m = ap (λ (y : Node). mark_on s.by.id y) (sym at) ∙ (ap (λ (i : List ℕ). mark_on i (node_of m)) s.named ∙ on_node m) in
      subst (Contains (map on these)) same_mark (map_in on these s.by listed)

  on_up : (m : Mark) → Contains (map on these) m → Contains (filter (is_on k id) (marks recalls pairs)) m
  on_up m h =
      let f = map_from on these m h in
      let g = filter_from (λ r. is_open r && is_recalled pairs r.lot (node_at k id)) recalls f.0 f.1.0 in
      let parts = and_parts (is_open f.0) (is_recalled pairs f.0.lot (node_at k id)) g.1 in
      let there = marks_all recalls pairs (on f.0) (record { by = f.0; listed = g.0; unlifted = parts.0; named = sym (recall_on f.0.id (node_at k id)); reaches = subst (IsRecalled pairs f.0.lot) (sym (node_on f.0.id (node_at k id))) ((recalled_where_reached pairs f.0.lot (node_at k id)).0 parts.1) }) in
      let kinds = eq-eqb (mark_kind_number (on f.0).kind) (mark_kind_number k) (ap mark_kind_number (kind_on f.0.id k id)) in
      let ids = ap (λ (i : List ℕ). same i id) (id_on f.0.id k id) ∙ same_itself id in
      subst (Contains (filter (is_on k id) (marks recalls pairs))) f.1.1 (filter_in (is_on k id) (marks recalls pairs) (on f.0) there (and_from (mark_kind_number (on f.0).kind == mark_kind_number k) (same (on f.0).id id) kinds ids))

  on_these : filter (is_on k id) (marks recalls pairs) ≡ map on these
  on_these =
      one_list mark_order mark_total mark_exact (filter (is_on k id) (marks recalls pairs)) (map on these)
      (IsStrictlySortedBy-filter mark_order (is_on k id) (marks recalls pairs) (marks_sorted recalls pairs))
      (map_sorted recall_order mark_order on rises these (IsStrictlySortedBy-filter recall_order (λ r. is_open r && is_recalled pairs r.lot (node_at k id)) recalls sorted))
      on_down on_up

pub are_on_node : AreOnNode
are_on_node recalls pairs k id sorted = on_these recalls pairs k id sorted
