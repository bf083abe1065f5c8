-- Lists by what they contain.
use Rattle.std.proofs.Common.{◌≡◌, ◌∙◌, Bool, true, false, cond, List, [], ◌∷◌, map, filter, sym, subst, ap, inl, inr, ◌⊎◌, ⊎_elim, refl, Contains, flat_map, Ordering, Less, Equal, Greater}
use Rattle.std.specs.List.{AllByRecursion}
use Rattle.std.specs.List.Sorted.{IsStrictlySortedBy}
use Rattle.std.specs.Cmp.{IsTotalOrder}
use Rattle.std.specs.Ordering.{match_ordering}
use Rattle.std.proofs.lemmas.Bool.{false≢true}
use Rattle.std.proofs.lemmas.Cmp.{tied_itself}
use Rattle.std.proofs.lemmas.List.Elements.{Contains-append_cases, Contains-append_left, Contains-append_right}
use Rattle.std.proofs.lemmas.Map.Lookups.{CmpEqualImpliesEq}
use Rattle.plant_base.specs.{put}
use Rattle.plant_trace.proofs.LeadsIsReach.{none_in, first_in, rest_in, first_or_rest}
use Rattle.plant_view.specs.{put_all}
pub use Rattle.plant_view.proofs.RowsInTurn.{sorted_put_all}

-- ---- each of them

pub all_at : {X : Type 0} (P : X → Type 0) (xs : List X) (x : X) → AllByRecursion P xs → Contains xs x → P x
all_at P [] x a h = absurd (none_in x h)
all_at P (y ∷ ys) x a h = ⊎_elim (λ e. subst P e a.0) (λ r. all_at P ys x a.1 r) (first_or_rest y ys x h)

pub all_from : {X : Type 0} (P : X → Type 0) (xs : List X) → ((x : X) → Contains xs x → P x) → AllByRecursion P xs
all_from P [] f = tt
all_from P (y ∷ ys) f = (f y (first_in y ys), all_from P ys (λ x h. f x (rest_in y ys x h)))

-- ---- mapped, filtered, joined

pub map_in : {X Y : Type 0} (f : X → Y) (xs : List X) (x : X) → Contains xs x → Contains (map f xs) (f x)
map_in f [] x h = absurd (none_in x h)
map_in {X} {Y} f (y ∷ ys) x h = ⊎_elim (λ e. subst (λ (z : X). Contains (f y ∷ map f ys) (f z)) e (first_in (f y) (map f ys))) (λ r. rest_in (f y) (map f ys) (f x) (map_in f ys x r)) (first_or_rest y ys x h)

pub map_from : {X Y : Type 0} (f : X → Y) (xs : List X) (z : Y) → Contains (map f xs) z → (x : X) × (Contains xs x × (f x ≡ z))
map_from f [] z h = absurd (none_in z h)
map_from f (y ∷ ys) z h = ⊎_elim (λ e. (y, (first_in y ys, e))) (λ r. let m = map_from f ys z r in (m.0, (rest_in y ys m.0 m.1.0, m.1.1))) (first_or_rest (f y) (map f ys) z h)

pub filter_in : {X : Type 0} (test : X → Bool) (xs : List X) (x : X) → Contains xs x → test x ≡ true → Contains (filter test xs) x
filter_in test [] x h t = absurd (none_in x h)
filter_in {X} test (y ∷ ys) x h t = elim (test y) as (λ b. test y ≡ b → Contains (cond b (y ∷ filter test ys) (filter test ys)) x) [
  | true ↦ λ e. ⊎_elim (λ s. subst (λ (z : X). Contains (y ∷ filter test ys) z) s (first_in y (filter test ys))) (λ r. rest_in y (filter test ys) x (filter_in test ys x r t)) (first_or_rest y ys x h)
  | false ↦ λ e. ⊎_elim (λ s. absurd (false≢true (sym e ∙ ap test s ∙ t))) (λ r. filter_in test ys x r t) (first_or_rest y ys x h)
] refl

pub filter_from : {X : Type 0} (test : X → Bool) (xs : List X) (x : X) → Contains (filter test xs) x → Contains xs x × (test x ≡ true)
filter_from test [] x h = absurd (none_in x h)
filter_from {X} test (y ∷ ys) x h = elim (test y) as (λ b. test y ≡ b → Contains (cond b (y ∷ filter test ys) (filter test ys)) x → Contains (y ∷ ys) x × (test x ≡ true)) [
  | true ↦ λ e i. ⊎_elim (λ s. (subst (λ (z : X). Contains (y ∷ ys) z) s (first_in y ys), sym (ap test s) ∙ e)) (λ r. let f = filter_from test ys x r in (rest_in y ys x f.0, f.1)) (first_or_rest y (filter test ys) x i)
  | false ↦ λ e i. let f = filter_from test ys x i in (rest_in y ys x f.0, f.1)
] refl h

pub flat_in : {X Y : Type 0} (f : X → List Y) (xs : List X) (x : X) (z : Y) → Contains xs x → Contains (f x) z → Contains (flat_map f xs) z
flat_in f [] x z h i = absurd (none_in x h)
flat_in {X} {Y} f (y ∷ ys) x z h i = ⊎_elim (λ e. Contains-append_left (f y) (flat_map f ys) z (subst (λ (w : X). Contains (f w) z) (sym e) i)) (λ r. Contains-append_right (f y) (flat_map f ys) z (flat_in f ys x z r i)) (first_or_rest y ys x h)

pub flat_from : {X Y : Type 0} (f : X → List Y) (xs : List X) (z : Y) → Contains (flat_map f xs) z → (x : X) × (Contains xs x × Contains (f x) z)
flat_from f [] z h = absurd (none_in z h)
flat_from f (y ∷ ys) z h = ⊎_elim (λ i. (y, (first_in y ys, i))) (λ r. let m = flat_from f ys z r in (m.0, (rest_in y ys m.0 m.1.0, m.1.1))) (Contains-append_cases (f y) (flat_map f ys) z h)

-- ---- rows that are put

module _ {R : Type 0} (order : R → R → Ordering) where
  put_in_by : (r x : R) (xs : List R) → Contains (put order r xs) r → (o : Ordering) → Contains (match_ordering o (r ∷ x ∷ xs) (r ∷ xs) (x ∷ put order r xs)) r
  put_in_by r x xs more Less = first_in r (x ∷ xs)
  put_in_by r x xs more Equal = first_in r xs
  put_in_by r x xs more Greater = rest_in x (put order r xs) r more

  -- the row that is put is there
  pub put_in : (r : R) (xs : List R) → Contains (put order r xs) r
  put_in r [] = first_in r []
  put_in r (x ∷ xs) = put_in_by r x xs (put_in r xs) (order r x)

  put_from_by : (r x y : R) (xs : List R) → (Contains (put order r xs) y → (y ≡ r) ⊎ Contains xs y) → (o : Ordering) → Contains (match_ordering o (r ∷ x ∷ xs) (r ∷ xs) (x ∷ put order r xs)) y → (y ≡ r) ⊎ Contains (x ∷ xs) y
  put_from_by r x y xs more Less h = ⊎_elim (λ e. inl (sym e)) (λ i. inr i) (first_or_rest r (x ∷ xs) y h)
  put_from_by r x y xs more Equal h = ⊎_elim (λ e. inl (sym e)) (λ i. inr (rest_in x xs y i)) (first_or_rest r xs y h)
  put_from_by r x y xs more Greater h = ⊎_elim (λ (e : x ≡ y). inr (subst (λ (z : R). Contains (x ∷ xs) z) e (first_in x xs))) (λ i. ⊎_elim (λ e. inl e) (λ j. inr (rest_in x xs y j)) (more i)) (first_or_rest x (put order r xs) y h)

  -- what is there afterwards was there, or was put
  pub put_from : (r y : R) (xs : List R) → Contains (put order r xs) y → (y ≡ r) ⊎ Contains xs y
  put_from r y [] h = ⊎_elim (λ e. inl (sym e)) (λ i. inr i) (first_or_rest r [] y h)
  put_from r y (x ∷ xs) h = put_from_by r x y xs (put_from r y xs) (order r x) h

  put_past_by : (r x y : R) (xs : List R) → (order r y ≡ Equal → ⊥) → (Contains xs y → Contains (put order r xs) y) → (o : Ordering) → order r x ≡ o → Contains (x ∷ xs) y → Contains (match_ordering o (r ∷ x ∷ xs) (r ∷ xs) (x ∷ put order r xs)) y
  put_past_by r x y xs apart more Less is h = rest_in r (x ∷ xs) y h
  put_past_by r x y xs apart more Equal is h = ⊎_elim (λ e. absurd (apart (sym (ap (order r) e) ∙ is))) (λ i. rest_in r xs y i) (first_or_rest x xs y h)
  put_past_by r x y xs apart more Greater is h = ⊎_elim (λ (e : x ≡ y). subst (λ (z : R). Contains (x ∷ put order r xs) z) e (first_in x (put order r xs))) (λ i. rest_in x (put order r xs) y (more i)) (first_or_rest x xs y h)

  -- a row with another key is there still
  pub put_past : (r y : R) (xs : List R) → (order r y ≡ Equal → ⊥) → Contains xs y → Contains (put order r xs) y
  put_past r y [] apart h = absurd (none_in y h)
  put_past r y (x ∷ xs) apart h = put_past_by r x y xs apart (put_past r y xs apart) (order r x) refl h

  -- rows stay, and come, where rows of one key are equal
  module _ (exact : CmpEqualImpliesEq order) where
    stays : (r y : R) (xs : List R) → Contains xs y → Contains (put order r xs) y
    stays r y xs h = by (order r y) refl
      where
        by : (o : Ordering) → order r y ≡ o → Contains (put order r xs) y
        by Less e = put_past r y xs (λ f. absurd cc) h
        by Equal e = subst (λ (z : R). Contains (put order r xs) z) (exact r y e) (put_in r xs)
        by Greater e = put_past r y xs (λ f. absurd cc) h

    stay : (rs : List R) (y : R) (xs : List R) → Contains xs y → Contains (put_all order rs xs) y
    stay [] y xs h = h
    stay (r ∷ rs) y xs h = stay rs y (put order r xs) (stays r y xs h)

    pub come : (rs xs : List R) (y : R) → Contains rs y → Contains (put_all order rs xs) y
    come [] xs y h = absurd (none_in y h)
    come (r ∷ rs) xs y h = ⊎_elim (λ (e : r ≡ y). subst (λ (z : R). Contains (put_all order rs (put order r xs)) z) e (stay rs r (put order r xs) (put_in r xs))) (λ i. come rs (put order r xs) y i) (first_or_rest r rs y h)

module _ {R : Type 0} (order : R → R → Ordering) (total : IsTotalOrder order) where
  put_once_by : (r x y : R) (xs : List R) → AllByRecursion (λ z. order x z ≡ Less) xs → (Contains (put order r xs) y → order r y ≡ Equal → y ≡ r) → (o : Ordering) → order r x ≡ o → Contains (match_ordering o (r ∷ x ∷ xs) (r ∷ xs) (x ∷ put order r xs)) y → order r y ≡ Equal → y ≡ r
  put_once_by r x y xs above more Less is h tie = ⊎_elim (λ e. sym e) (λ i. ⊎_elim (λ (e : x ≡ y). absurd (let f : order r x ≡ Equal = ap (order r) e ∙ tie in cc)) (λ j. absurd (let g = total.trans r x y is (all_at (λ z. order x z ≡ Less) xs y above j) in cc)) (first_or_rest x xs y i)) (first_or_rest r (x ∷ xs) y h)
  put_once_by r x y xs above more Equal is h tie = ⊎_elim (λ e. sym e) (λ j. absurd (let g = total.congr r x y is ∙ all_at (λ z. order x z ≡ Less) xs y above j in cc)) (first_or_rest r xs y h)
  put_once_by r x y xs above more Greater is h tie = ⊎_elim (λ (e : x ≡ y). absurd (let f : order r x ≡ Equal = ap (order r) e ∙ tie in cc)) (λ i. more i tie) (first_or_rest x (put order r xs) y h)

  -- of the key of the row that was put there is that row alone
  pub put_once : (r y : R) (xs : List R) → IsStrictlySortedBy order xs → Contains (put order r xs) y → order r y ≡ Equal → y ≡ r
  unfolding IsStrictlySortedBy
  put_once r y [] sorted h tie = ⊎_elim (λ e. sym e) (λ i. absurd (none_in y i)) (first_or_rest r [] y h)
  put_once r y (x ∷ xs) sorted h tie = put_once_by r x y xs sorted.0 (put_once r y xs sorted.1) (order r x) refl h tie

  -- ---- of an order in which only equal rows tie
  module _ (exact : CmpEqualImpliesEq order) where
    pub put_stays : (r y : R) (xs : List R) → Contains xs y → Contains (put order r xs) y
    put_stays r y xs h = stays order exact r y xs h

    pub all_stay : (rs : List R) (y : R) (xs : List R) → Contains xs y → Contains (put_all order rs xs) y
    all_stay rs y xs h = stay order exact rs y xs h

    pub all_in : (rs : List R) (y : R) (xs : List R) → Contains rs y → Contains (put_all order rs xs) y
    all_in rs y xs h = come order exact rs xs y h

    less_itself : (x : R) → order x x ≡ Less → ⊥
    less_itself x e = let f = tied_itself total x in absurd cc

    -- ascending lists with the same rows are one
    pub one_list : (xs ys : List R) → IsStrictlySortedBy order xs → IsStrictlySortedBy order ys → ((z : R) → Contains xs z → Contains ys z) → ((z : R) → Contains ys z → Contains xs z) → xs ≡ ys
    unfolding IsStrictlySortedBy
    one_list [] [] a b f g = refl
    one_list [] (y ∷ ys) a b f g = absurd (none_in y (g y (first_in y ys)))
    one_list (x ∷ xs) [] a b f g = absurd (none_in x (f x (first_in x xs)))
    one_list (x ∷ xs) (y ∷ ys) a b f g =
        let above_x = λ (z : R) (i : Contains xs z). all_at (λ w. order x w ≡ Less) xs z a.0 i in
        let above_y = λ (z : R) (i : Contains ys z). all_at (λ w. order y w ≡ Less) ys z b.0 i in
        let first : x ≡ y = ⊎_elim (λ e. sym e) (λ i. ⊎_elim (λ e. e) (λ j. absurd (less_itself x (total.trans x y x (above_x y j) (above_y x i)))) (first_or_rest x xs y (g y (first_in y ys)))) (first_or_rest y ys x (f x (first_in x xs))) in
        let down : (z : R) → Contains xs z → Contains ys z = λ z i. ⊎_elim (λ (e : y ≡ z). absurd (less_itself x (subst (λ (w : R). order x w ≡ Less) (sym (first ∙ e)) (above_x z i)))) (λ j. j) (first_or_rest y ys z (f z (rest_in x xs z i))) in
        let up : (z : R) → Contains ys z → Contains xs z = λ z i. ⊎_elim (λ (e : x ≡ z). absurd (less_itself y (subst (λ (w : R). order y w ≡ Less) (sym (sym first ∙ e)) (above_y z i)))) (λ j. j) (first_or_rest x xs z (g z (rest_in y ys z i))) in
        λ k. first k ∷ one_list xs ys a.1 b.1 down up k

  pub put_all_from : (rs : List R) (y : R) (xs : List R) → Contains (put_all order rs xs) y → Contains rs y ⊎ Contains xs y
  put_all_from [] y xs h = inr h
  put_all_from (r ∷ rs) y xs h = ⊎_elim (λ i. inl (rest_in r rs y i)) (λ i. ⊎_elim (λ e. inl (subst (λ (z : R). Contains (r ∷ rs) z) (sym e) (first_in r rs))) (λ j. inr j) (put_from order r y xs i)) (put_all_from rs y (put order r xs) h)

-- mapped by what keeps their order
all_above : {X Y : Type 0} (order : X → X → Ordering) (above : Y → Y → Ordering) (f : X → Y) → ((a b : X) → order a b ≡ Less → above (f a) (f b) ≡ Less) → (x : X) (xs : List X) → AllByRecursion (λ z. order x z ≡ Less) xs → AllByRecursion (λ z. above (f x) z ≡ Less) (map f xs)
all_above order above f rises x [] a = tt
all_above order above f rises x (y ∷ ys) a = (rises x y a.0, all_above order above f rises x ys a.1)

pub map_sorted : {X Y : Type 0} (order : X → X → Ordering) (above : Y → Y → Ordering) (f : X → Y) → ((a b : X) → order a b ≡ Less → above (f a) (f b) ≡ Less) → (xs : List X) → IsStrictlySortedBy order xs → IsStrictlySortedBy above (map f xs)
unfolding IsStrictlySortedBy
map_sorted order above f rises [] a = tt
map_sorted order above f rises (x ∷ xs) a = (all_above order above f rises x xs a.0, map_sorted order above f rises xs a.1)
