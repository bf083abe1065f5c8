-- Sums of what is booked, edge by edge, as a map has them.
use Rattle.std.proofs.Common.{◌≡◌, ◌∙◌, ℕ, ◌+◌, ◌≤◌, ◌<◌, ◌^◌, Bool, true, false, cond, List, [], ◌∷◌, ◌++◌, length, take, get_or, map, Option, Some, None, refl, sym, subst, ap, arith, ⊎_elim, Contains, ◌||◌, min, unwrap_or, IsSome, BTreeMap, is_eq}
use Rattle.std.specs.BTreeMap.{Updates, get, keys}
use Rattle.std.specs.List.{AllByRecursion}
use Rattle.std.specs.List.Sorted.{IsStrictlySortedBy}
use Rattle.std.proofs.lemmas.Bool.{false≢true}
use Rattle.std.proofs.lemmas.Cmp.{tied_itself}
use Rattle.std.proofs.lemmas.List.{take_more}
use Rattle.std.proofs.lemmas.List.Elements.{All-weaker, recursion_from_All}
use Rattle.std.proofs.lemmas.List.Folds.{list_any-append, Any-from_list_any, list_any-from_Any}
use Rattle.std.proofs.lemmas.List.Sums.{sum_by-cons, sum_by_push, sum_by-take-le}
use Rattle.std.proofs.lemmas.Map.Views.{All-found, btree_map_contains_key_iff, tells_apart}
use Rattle.plant_base.specs.{edge_eq, edge_order, edge_ties, edge_total, EdgeRow}
use Rattle.plant_base.proofs.EdgeIsItsKey.{one_edge}
use Rattle.plant_trace.proofs.LeadsIsReach.{none_in}
use Rattle.plant_view.specs.{put_all}
use Rattle.plant_view.proofs.Membership.{all_in, map_in, map_from, one_list, put_all_from, sorted_put_all}
use Rattle.plant_answers_genealogy.specs.{Fits, counted, is_booked, sum_at, sum_with, summed, total_along}
use Rattle.plant_questions.specs.{BookedEdge}
use Rattle.std.proofs.Math.Bool.{or-true, or-false}

-- ---- edges

pub edge_exact : (x y : EdgeRow) → edge_eq x y ≡ true → x ≡ y
edge_exact x y e = tells_apart one_edge x y (sym (edge_ties x y) ∙ e)

pub edge_itself : (x y : EdgeRow) → x ≡ y → edge_eq x y ≡ true
edge_itself x y e = subst (λ (z : EdgeRow). edge_eq x z ≡ true) e (edge_ties x x ∙ ap is_eq (tied_itself edge_total x))

-- ---- one booking more

sum_more : (bs : List BookedEdge) (b : BookedEdge) (e : EdgeRow) → sum_at (bs ++ b ∷ []) e ≡ cond (edge_eq b.edge e) (Some (total_along bs e + b.amount)) (sum_at bs e)
sum_more bs b e = by (edge_eq b.edge e) refl
  where
    by : (t : Bool) → edge_eq b.edge e ≡ t → sum_at (bs ++ b ∷ []) e ≡ cond t (Some (total_along bs e + b.amount)) (sum_at bs e)
    by true is =
        let booked : is_booked (bs ++ b ∷ []) e ≡ true = list_any-append (λ (x : BookedEdge). edge_eq x.edge e) bs (b ∷ []) ∙ (ap (λ (t : Bool). is_booked bs e || (t || false)) is ∙ or-true (is_booked bs e)) in
        let total : total_along (bs ++ b ∷ []) e ≡ total_along bs e + b.amount = sum_by_push (counted e) bs b ∙ ap (λ (t : Bool). total_along bs e + cond t b.amount 0) is in
        λ i. cond (booked i) (Some (total i)) None
    by false is =
        let booked : is_booked (bs ++ b ∷ []) e ≡ is_booked bs e = list_any-append (λ (x : BookedEdge). edge_eq x.edge e) bs (b ∷ []) ∙ (ap (λ (t : Bool). is_booked bs e || (t || false)) is ∙ or-false (is_booked bs e)) in
        let total : total_along (bs ++ b ∷ []) e ≡ total_along bs e + 0 = sum_by_push (counted e) bs b ∙ ap (λ (t : Bool). total_along bs e + cond t b.amount 0) is in
        let same : total_along (bs ++ b ∷ []) e ≡ total_along bs e = omega (arith, total) in
        λ i. cond (booked i) (Some (same i)) None

unbooked : (bs : List BookedEdge) (e : EdgeRow) → is_booked bs e ≡ false → total_along bs e ≡ 0
unbooked [] e h = refl
unbooked (b ∷ bs) e h = by (edge_eq b.edge e) refl h (unbooked bs e)
  where
    by : (t : Bool) → edge_eq b.edge e ≡ t → (t || is_booked bs e) ≡ false → (is_booked bs e ≡ false → total_along bs e ≡ 0) → total_along (b ∷ bs) e ≡ 0
    by true is h rest = absurd (false≢true (sym h))
    by false is h rest =
        let none : counted e b ≡ 0 = ap (λ (t : Bool). cond t b.amount 0) is in
        omega (arith, sum_by-cons (counted e) b bs, none, rest h)

sum_reported : (bs : List BookedEdge) (e : EdgeRow) → unwrap_or (sum_at bs e) 0 ≡ total_along bs e
sum_reported bs e = by (is_booked bs e) refl
  where
    by : (t : Bool) → is_booked bs e ≡ t → unwrap_or (cond t (Some (total_along bs e)) None) 0 ≡ total_along bs e
    by true is = refl
    by false is = sym (unbooked bs e is)

min_small : (x m : ℕ) → x ≤ m → min x m ≡ x
min_small x m l = grind arith

module _ (bs : List BookedEdge) (b : BookedEdge) (old new : BTreeMap EdgeRow ℕ) (fits : total_along bs b.edge + b.amount < 2 ^ 64) (has : (q : EdgeRow) → get edge_order old q ≡ sum_at bs q) (updates : Updates edge_order old new b.edge (Some (sum_with (get edge_order old b.edge) b.amount))) where
  value : sum_with (get edge_order old b.edge) b.amount ≡ total_along bs b.edge + b.amount
  value =
      let sum : unwrap_or (get edge_order old b.edge) 0 ≡ total_along bs b.edge = ap (λ (o : Option ℕ). unwrap_or o 0) (has b.edge) ∙ sum_reported bs b.edge in
      ap (λ (n : ℕ). min (n + b.amount) 18446744073709551615) sum ∙ min_small (total_along bs b.edge + b.amount) 18446744073709551615 (omega (arith, fits))

  has_more : (q : EdgeRow) → get edge_order new q ≡ sum_at (bs ++ b ∷ []) q
  has_more q = by (edge_eq b.edge q) refl
    where
      by : (t : Bool) → edge_eq b.edge q ≡ t → get edge_order new q ≡ sum_at (bs ++ b ∷ []) q
      by true is =
          let found : get edge_order new q ≡ Some (sum_with (get edge_order old b.edge) b.amount) = updates.0 q ∙ ap (λ (t : Bool). cond t (Some (sum_with (get edge_order old b.edge) b.amount)) (get edge_order old q)) (sym (edge_ties b.edge q) ∙ is) in
          let reported : sum_at (bs ++ b ∷ []) q ≡ Some (total_along bs q + b.amount) = sum_more bs b q ∙ ap (λ (t : Bool). cond t (Some (total_along bs q + b.amount)) (sum_at bs q)) is in
          found ∙ ap Some (value ∙ ap (λ (e : EdgeRow). total_along bs e + b.amount) (edge_exact b.edge q is)) ∙ sym reported
      by false is =
          let found : get edge_order new q ≡ get edge_order old q = updates.0 q ∙ ap (λ (t : Bool). cond t (Some (sum_with (get edge_order old b.edge) b.amount)) (get edge_order old q)) (sym (edge_ties b.edge q) ∙ is) in
          let reported : sum_at (bs ++ b ∷ []) q ≡ sum_at bs q = sum_more bs b q ∙ ap (λ (t : Bool). cond t (Some (total_along bs q + b.amount)) (sum_at bs q)) is in
          found ∙ has q ∙ sym reported

-- the turn of a loop
pub sums_more : (bs : List BookedEdge) (i : ℕ) (b : BookedEdge) (old new : BTreeMap EdgeRow ℕ) → i < length bs → b ≡ get_or bs i b → Fits bs → ((q : EdgeRow) → get edge_order old q ≡ sum_at (take i bs) q)
    → Updates edge_order old new b.edge (Some (sum_with (get edge_order old b.edge) b.amount)) → (q : EdgeRow) → get edge_order new q ≡ sum_at (take (i + 1) bs) q
sums_more bs i b old new l at fits has updates q =
    let longer : take (i + 1) bs ≡ take i bs ++ b ∷ [] = take_more bs i b l ∙ ap (λ (x : BookedEdge). take i bs ++ x ∷ []) (sym at) in
    let within = sum_by-take-le (counted b.edge) bs (i + 1) in
    let whole : total_along (take (i + 1) bs) b.edge ≡ total_along (take i bs) b.edge + b.amount =
    ap (λ (xs : List BookedEdge). total_along xs b.edge) longer ∙ sum_by_push (counted b.edge) (take i bs) b ∙ ap (λ (t : Bool). total_along (take i bs) b.edge + cond t b.amount 0) (edge_itself b.edge b.edge refl) in
    has_more (take i bs) b old new (omega (arith, within, whole, fits b.edge)) has updates q ∙ ap (λ (xs : List BookedEdge). sum_at xs q) (sym longer)

-- ---- all bookings

booked_in : (bs : List BookedEdge) (e : EdgeRow) → is_booked bs e ≡ true → Contains (map (λ b. b.edge) bs) e
booked_in bs e h =
    let any = Any-from_list_any (λ (b : BookedEdge). edge_eq b.edge e) bs h in
    subst (Contains (map (λ (b : BookedEdge). b.edge) bs)) (edge_exact any.1.edge e any.4) (map_in (λ (b : BookedEdge). b.edge) bs any.1 (any.0, any.2, any.3))

in_booked : (bs : List BookedEdge) (e : EdgeRow) → Contains (map (λ b. b.edge) bs) e → is_booked bs e ≡ true
in_booked bs e h =
    let from = map_from (λ (b : BookedEdge). b.edge) bs e h in
    let c = from.1.0 in
    list_any-from_Any (λ (b : BookedEdge). edge_eq b.edge e) bs (c.0, from.0, c.1, c.2, edge_itself from.0.edge e from.1.1)

some_booked : (bs : List BookedEdge) (e : EdgeRow) → IsSome (sum_at bs e) → is_booked bs e ≡ true
some_booked bs e = by (is_booked bs e)
  where
    by : (t : Bool) → IsSome (cond t (Some (total_along bs e)) None) → t ≡ true
    by true h = refl
    by false h = absurd (false≢true h)

booked_some : (bs : List BookedEdge) (e : EdgeRow) → is_booked bs e ≡ true → IsSome (sum_at bs e)
booked_some bs e h = subst (λ (t : Bool). IsSome (cond t (Some (total_along bs e)) None)) (sym h) refl

sum_is : (bs : List BookedEdge) (e : EdgeRow) (n : ℕ) → sum_at bs e ≡ Some n → n ≡ total_along bs e
sum_is bs e n = by (is_booked bs e)
  where
    by : (t : Bool) → cond t (Some (total_along bs e)) None ≡ Some n → n ≡ total_along bs e
    by true h = cc
    by false h = absurd (cc)

abbrev pub booked_pair : EdgeRow × ℕ → BookedEdge
booked_pair p = record { edge = p.0; amount = p.1 }

abbrev pub totalled : List BookedEdge → EdgeRow → BookedEdge
totalled bs e = record { edge = e; amount = total_along bs e }

valued : (bs : List BookedEdge) (es : List (EdgeRow × ℕ)) → AllByRecursion (λ p. p.1 ≡ total_along bs p.0) es → map booked_pair es ≡ map (totalled bs) (map (λ p. p.0) es)
valued bs [] a = refl
valued bs (p ∷ ps) a = λ i. record { edge = p.0; amount = a.0 i } ∷ valued bs ps a.1 i

module _ (bs : List BookedEdge) (m : BTreeMap EdgeRow ℕ) (sorted : IsStrictlySortedBy edge_order (keys m)) (has : (q : EdgeRow) → get edge_order m q ≡ sum_at bs q) where
  abbrev booked : List EdgeRow
  booked = map (λ b. b.edge) bs

  same_keys : keys m ≡ put_all edge_order booked []
  unfolding IsStrictlySortedBy
  same_keys = one_list edge_order edge_total one_edge (keys m) (put_all edge_order booked []) sorted (sorted_put_all edge_order edge_total booked [] tt)
      (λ e h. all_in edge_order edge_total one_edge booked e [] (booked_in bs e (some_booked bs e (subst IsSome (has e) ((btree_map_contains_key_iff edge_total one_edge m e).1 h)))))
      (λ e h. ⊎_elim (λ i. (btree_map_contains_key_iff edge_total one_edge m e).0 (subst IsSome (sym (has e)) (booked_some bs e (in_booked bs e i)))) (λ n. absurd (none_in e n)) (put_all_from edge_order edge_total booked e [] h))

  -- the map's entries are the sums
  pub entries_summed : map booked_pair m.entries ≡ summed bs
  entries_summed =
      let each = All-weaker (λ (p : EdgeRow × ℕ). get edge_order m p.0 ≡ Some p.1) (λ (p : EdgeRow × ℕ). p.1 ≡ total_along bs p.0) (λ p e. sum_is bs p.0 p.1 (sym (has p.0) ∙ e)) m.entries (All-found edge_total m sorted) in
      valued bs m.entries (recursion_from_All (λ (p : EdgeRow × ℕ). p.1 ≡ total_along bs p.0) m.entries each) ∙ ap (map (totalled bs)) same_keys
