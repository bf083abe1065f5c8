-- Marks found recall by recall.
use Rattle.std.proofs.Common.{◌≡◌, ◌∙◌, ℕ, ◌<◌, ◌≤◌, Bool, true, false, cond, List, [], ◌∷◌, ◌++◌, map, length, sym, subst, ap, ⊎_elim, refl, Contains, arith, ◌||◌, flat_map}
use Rattle.std.specs.List.{list_any}
use Rattle.std.proofs.lemmas.Bool.{false≢true, false_from_ne_true}
use Rattle.std.proofs.lemmas.Grind.{flat_map-append}
use Rattle.std.proofs.lemmas.List.Elements.{Contains-append_cases, Contains-append_left, Contains-push}
use Rattle.plant_base.specs.{is_open, mark_order, mark_eq, mark_ties, mark_total, Mark, Recall}
use Rattle.plant_trace.specs.{Lists, IsRecalled, Node}
use Rattle.plant_trace.proofs.LeadsIsReach.{none_in, first_or_rest}
use Rattle.plant_view.specs.{mark_on, node_of, nodes_from, marks_of, marks, Reaches, put_all}
use Rattle.plant_view.proofs.EdgeRowOrder.{put_all_append}
use Rattle.plant_view.proofs.MarkChanges.{mark_exact, marks_sorted, marks_only, marks_all, same_marks, recall_on, node_on, on_node}
use Rattle.plant_view.proofs.Membership.{all_in, all_stay, put_all_from, sorted_put_all, map_in, map_from}
use Rattle.plant_requirements.specs.{are_same_marks}
use Rattle.plant_requirements.proofs.SetsOfKeys as sets

-- ---- rows that are compared with the marks

pub same_itself : (ms : List Mark) → are_same_marks ms ms ≡ true
same_itself = sets.same_itself mark_order mark_exact mark_total mark_eq mark_ties

pub same_list : (ms ns : List Mark) → are_same_marks ms ns ≡ true → ms ≡ ns
same_list = sets.same_list mark_order mark_exact mark_total mark_eq mark_ties

-- rows that are fewer are others
pub fewer : (rows all : List Mark) → length rows < length all → are_same_marks rows all ≡ false
fewer rows all less = false_from_ne_true (are_same_marks rows all) (λ e. let same = ap (λ (xs : List Mark). length xs) (same_list rows all e) in omega (arith, less, same))

-- ---- recall by recall

module _ (pairs : List (Node × Node)) where
  marks_append : (prefix back : List Recall) → marks (prefix ++ back) pairs ≡ put_all mark_order (flat_map (marks_of pairs) back) (marks prefix pairs)
  unfolding marks
  marks_append prefix back = ap (λ (ms : List Mark). put_all mark_order ms []) (flat_map-append (marks_of pairs) prefix back) ∙ put_all_append mark_order (flat_map (marks_of pairs) prefix) (flat_map (marks_of pairs) back) []

  -- the marks of the first recalls are no more than those of all
  pub marks_longer : (prefix back : List Recall) → length (marks prefix pairs) ≤ length (marks (prefix ++ back) pairs)
  marks_longer prefix back =
      let more = sets.all_longer mark_order (flat_map (marks_of pairs) back) (marks prefix pairs) in
      let same = ap (λ (ms : List Mark). length ms) (marks_append prefix back) in
      omega (arith, more, same)

  -- a recall that was lifted brings none
  pub marks_lifted : (prefix : List Recall) (r : Recall) → is_open r ≡ false → marks (prefix ++ r ∷ []) pairs ≡ marks prefix pairs
  marks_lifted prefix r lifted = marks_append prefix (r ∷ []) ∙ ap (λ (b : Bool). put_all mark_order (cond b (map (mark_on r.id) (nodes_from pairs r.lot)) [] ++ []) (marks prefix pairs)) lifted

  module _ (prefix : List Recall) (r : Recall) (nodes : List Node) (unlifted : is_open r ≡ true) (lists : Lists (IsRecalled pairs r.lot) nodes) where
    abbrev rows : List Mark
    rows = map (mark_on r.id) nodes

    next_all : (m : Mark) → Reaches (prefix ++ r ∷ []) pairs m.recall (node_of m) → Contains (put_all mark_order rows (marks prefix pairs)) m
    next_all m h = ⊎_elim
        (λ i. all_stay mark_order mark_total mark_exact rows m (marks prefix pairs) (marks_all prefix pairs m (record { by = h.by; listed = i; unlifted = h.unlifted; named = h.named; reaches = h.reaches })))
        (λ i.
        let e : h.by ≡ r = ⊎_elim (λ s. sym s) (λ n. absurd (none_in h.by n)) (first_or_rest r [] h.by i) in
        let at = lists.all (node_of m) (subst (λ (q : Recall). IsRecalled pairs q.lot (node_of m)) e h.reaches) in
        let same : mark_on r.id (node_of m) ≡ m = ap (λ (i : List ℕ). mark_on i (node_of m)) (ap (λ (q : Recall). q.id) (sym e) ∙ h.named) ∙ on_node m in
        all_in mark_order mark_total mark_exact rows m (marks prefix pairs) (subst (Contains rows) same (map_in (mark_on r.id) nodes (node_of m) at)))
        (Contains-append_cases prefix (r ∷ []) h.by h.listed)

    next_only : (m : Mark) → Contains (put_all mark_order rows (marks prefix pairs)) m → Reaches (prefix ++ r ∷ []) pairs m.recall (node_of m)
    next_only m h = ⊎_elim
        (λ i.
        let f = map_from (mark_on r.id) nodes m i in
        record { by = r; listed = Contains-push prefix r; unlifted = unlifted; named = sym (recall_on r.id f.0) ∙ ap (λ (x : Mark). x.recall) f.1.1; reaches = subst (IsRecalled pairs r.lot) (sym (node_on r.id f.0) ∙ ap node_of f.1.1) (lists.only f.0 f.1.0) })
        (λ i. let s = marks_only prefix pairs m i in record { by = s.by; listed = Contains-append_left prefix (r ∷ []) s.by s.listed; unlifted = s.unlifted; named = s.named; reaches = s.reaches })
        (put_all_from mark_order mark_total rows m (marks prefix pairs) h)

    -- an open one brings those of the nodes that it reaches
    pub marks_next : marks (prefix ++ r ∷ []) pairs ≡ put_all mark_order rows (marks prefix pairs)
    marks_next = same_marks (prefix ++ r ∷ []) pairs (put_all mark_order rows (marks prefix pairs)) (sorted_put_all mark_order mark_total rows (marks prefix pairs) (marks_sorted prefix pairs)) next_all next_only

  -- ---- where no recall is open

  none_of : (recalls : List Recall) → list_any is_open recalls ≡ false → flat_map (marks_of pairs) recalls ≡ []
  none_of [] e = refl
  none_of (r ∷ rs) e = by (is_open r) refl e (none_of rs)
    where
      by : (b : Bool) → is_open r ≡ b → (b || list_any is_open rs) ≡ false → (list_any is_open rs ≡ false → flat_map (marks_of pairs) rs ≡ []) → flat_map (marks_of pairs) (r ∷ rs) ≡ []
      by true f g rest = absurd (false≢true (sym g))
      by false f g rest = ap (λ (b : Bool). cond b (map (mark_on r.id) (nodes_from pairs r.lot)) [] ++ flat_map (marks_of pairs) rs) f ∙ rest g

  -- there are no marks
  pub none_marked : (recalls : List Recall) → list_any is_open recalls ≡ false → marks recalls pairs ≡ []
  unfolding marks
  none_marked recalls e = ap (λ (ms : List Mark). put_all mark_order ms []) (none_of recalls e)
