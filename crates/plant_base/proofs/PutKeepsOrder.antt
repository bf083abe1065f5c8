-- What `put` does to ascending rows.
use Rattle.std.proofs.Common.{◌≡◌, Bool, true, false, cond, Some, find, is_some, List, [], ◌++◌, ◌∷◌, map, refl, sym, ap, ◌∙◌, is_eq, Ordering, Less, Equal, Greater}
use Rattle.std.specs.List.{AllByRecursion}
use Rattle.std.specs.List.Sorted.{IsStrictlySortedBy}
use Rattle.std.specs.Cmp.{IsTotalOrder}
use Rattle.std.specs.Ordering.{match_ordering, ordering_reverse}
use Rattle.std.proofs.lemmas.Bool.{false≢true}
use Rattle.plant_base.specs.{put}
use Rattle.plant_base.proofs.FindIsFirst.{found_keeps}

pub all_weaker : {R : Type 0} (P Q : R → Type 0) → ((r : R) → P r → Q r) → (rs : List R) → AllByRecursion P rs → AllByRecursion Q rs
all_weaker P Q f [] a = tt
all_weaker P Q f (r ∷ rs) a = (f r a.0, all_weaker P Q f rs a.1)

-- rows that are alike are mapped alike
pub map_alike : {P R : Type 0} (g h : P → R) (D : P → Type 0) (ps : List P) → AllByRecursion D ps → AllByRecursion (λ q. D q → g q ≡ h q) ps → map g ps ≡ map h ps
map_alike g h D [] d e = refl
map_alike g h D (q ∷ qs) d e = λ i. e.0 d.0 i ∷ map_alike g h D qs d.1 e.1 i

module _ {P R : Type 0} (po : P → P → Ordering) (ro : R → R → Ordering) (total : IsTotalOrder po) (g h : P → R) (p : P) (agrees : (q : P) → ro (h p) (g q) ≡ po p q) where
  pub below_rest : (x : P) (xs : List P) → po p x ≡ Less → AllByRecursion (λ y. po x y ≡ Less) xs → AllByRecursion (λ q. is_eq (po p q) ≡ false) xs
  below_rest x xs l a = all_weaker _ _ (λ q less. ap is_eq (total.trans p x q l less)) xs a

  pub at_rest : (x : P) (xs : List P) → po p x ≡ Equal → AllByRecursion (λ y. po x y ≡ Less) xs → AllByRecursion (λ q. is_eq (po p q) ≡ false) xs
  at_rest x xs l a = all_weaker _ _ (λ q less. ap is_eq (total.congr p x q l ∙ less)) xs a

  step_by_order : (x : P) (xs : List P) → AllByRecursion (λ y. po x y ≡ Less) xs → AllByRecursion (λ q. is_eq (po p q) ≡ false → g q ≡ h q) (x ∷ xs) → put ro (h p) (map g xs) ≡ map h (put po p xs)
      → (o : Ordering) → po p x ≡ o → match_ordering o (h p ∷ g x ∷ map g xs) (h p ∷ map g xs) (g x ∷ put ro (h p) (map g xs)) ≡ map h (match_ordering o (p ∷ x ∷ xs) (p ∷ xs) (x ∷ put po p xs))
  step_by_order x xs a e more Less l = λ i. h p ∷ e.0 (ap is_eq l) i ∷ map_alike g h (λ q. is_eq (po p q) ≡ false) xs (below_rest x xs l a) e.1 i
  step_by_order x xs a e more Equal l = λ i. h p ∷ map_alike g h (λ q. is_eq (po p q) ≡ false) xs (at_rest x xs l a) e.1 i
  step_by_order x xs a e more Greater l = λ i. e.0 (ap is_eq l) i ∷ more i

  -- A row whose column changes at one key alone is put where it belongs.
  pub put_map : (ps : List P) → IsStrictlySortedBy po ps → AllByRecursion (λ q. is_eq (po p q) ≡ false → g q ≡ h q) ps → put ro (h p) (map g ps) ≡ map h (put po p ps)
  unfolding IsStrictlySortedBy
  put_map [] a e = refl
  put_map (x ∷ xs) a e = ap (λ o. match_ordering o (h p ∷ g x ∷ map g xs) (h p ∷ map g xs) (g x ∷ put ro (h p) (map g xs))) (agrees x) ∙ step_by_order x xs a.0 e (put_map xs a.1 e.1) (po p x) refl

module _ {P : Type 0} (po : P → P → Ordering) (total : IsTotalOrder po) (p : P) (test : P → Bool) (agrees : (q : P) → test q ≡ is_eq (po p q)) where
  there_by_order : (x : P) (xs : List P) → AllByRecursion (λ y. po x y ≡ Less) xs → (b : Bool) → test x ≡ b → cond b (Some x) (find test xs) ≡ Some p → (find test xs ≡ Some p → put po p xs ≡ xs)
      → (o : Ordering) → po p x ≡ o → match_ordering o (p ∷ x ∷ xs) (p ∷ xs) (x ∷ put po p xs) ≡ x ∷ xs
  there_by_order x xs a true t f more Less l = absurd (false≢true (sym (agrees x ∙ ap is_eq l) ∙ t))
  there_by_order x xs a true t f more Equal l = let same : x ≡ p = cc in λ i. sym same i ∷ xs
  there_by_order x xs a true t f more Greater l = absurd (false≢true (sym (agrees x ∙ ap is_eq l) ∙ t))
  there_by_order x xs a false t f more Less l = let above = found_keeps (λ y. po x y ≡ Less) test xs p a f in let back = total.antisymm p x in absurd cc
  there_by_order x xs a false t f more Equal l = absurd (false≢true (sym t ∙ agrees x ∙ ap is_eq l))
  there_by_order x xs a false t f more Greater l = λ i. x ∷ more f i

  -- a row that is there already changes nothing
  pub put_there : (ps : List P) → IsStrictlySortedBy po ps → find test ps ≡ Some p → put po p ps ≡ ps
  unfolding IsStrictlySortedBy
  put_there [] a f = absurd cc
  put_there (x ∷ xs) a f = there_by_order x xs a.0 (test x) refl f (put_there xs a.1) (po p x) refl

all_by_order : {R : Type 0} (order : R → R → Ordering) (P : R → Type 0) (r x : R) (xs : List R) → P r → AllByRecursion P (x ∷ xs) → AllByRecursion P (put order r xs) → (o : Ordering) → AllByRecursion P (match_ordering o (r ∷ x ∷ xs) (r ∷ xs) (x ∷ put order r xs))
all_by_order order P r x xs h a more Less = (h, a)
all_by_order order P r x xs h a more Equal = (h, a.1)
all_by_order order P r x xs h a more Greater = (a.0, more)

-- what holds of the rows and of the one that is put holds afterwards
pub all_put : {R : Type 0} (order : R → R → Ordering) (P : R → Type 0) (r : R) (rs : List R) → P r → AllByRecursion P rs → AllByRecursion P (put order r rs)
all_put order P r [] h a = (h, tt)
all_put order P r (x ∷ xs) h a = all_by_order order P r x xs h a (all_put order P r xs h a.1) (order r x)

pub all_push : {R : Type 0} (P : R → Type 0) (rs : List R) (r : R) → AllByRecursion P rs → P r → AllByRecursion P (rs ++ r ∷ [])
all_push P [] r a h = (h, tt)
all_push P (x ∷ xs) r a h = (a.0, all_push P xs r a.1 h)

module _ {R : Type 0} (order : R → R → Ordering) (total : IsTotalOrder order) (r : R) where
  sorted_by_order : (x : R) (xs : List R) → AllByRecursion (λ y. order x y ≡ Less) xs → IsStrictlySortedBy order xs → IsStrictlySortedBy order (put order r xs) → (o : Ordering) → order r x ≡ o → IsStrictlySortedBy order (match_ordering o (r ∷ x ∷ xs) (r ∷ xs) (x ∷ put order r xs))
  unfolding IsStrictlySortedBy
  sorted_by_order x xs a sorted more Less l = ((l, all_weaker _ _ (λ y less. total.trans r x y l less) xs a), (a, sorted))
  sorted_by_order x xs a sorted more Equal l = (all_weaker _ _ (λ y less. total.congr r x y l ∙ less) xs a, sorted)
  sorted_by_order x xs a sorted more Greater l = (all_put order (λ y. order x y ≡ Less) r xs (total.antisymm x r ∙ ap ordering_reverse l) a, more)

  -- the rows stay in order
  pub sorted_put : (rs : List R) → IsStrictlySortedBy order rs → IsStrictlySortedBy order (put order r rs)
  unfolding IsStrictlySortedBy
  sorted_put [] sorted = (tt, tt)
  sorted_put (x ∷ xs) sorted = sorted_by_order x xs sorted.0 sorted.1 (sorted_put xs sorted.1) (order r x) refl

module _ {R : Type 0} (order : R → R → Ordering) (r : R) (test : R → Bool) where
  one_found : (x : R) (xs : List R) → test x ≡ true → is_some (find test (x ∷ xs)) ≡ true
  one_found x xs t = ap (λ b. is_some (cond b (Some x) (find test xs))) t

  found_by_order : (x : R) (xs : List R) → test r ≡ true → is_some (find test (put order r xs)) ≡ true → (o : Ordering) → is_some (find test (match_ordering o (r ∷ x ∷ xs) (r ∷ xs) (x ∷ put order r xs))) ≡ true
  found_by_order x xs t more Less = one_found r (x ∷ xs) t
  found_by_order x xs t more Equal = one_found r xs t
  found_by_order x xs t more Greater = elim (test x) as (λ b. is_some (cond b (Some x) (find test (put order r xs))) ≡ true) [ true ↦ refl | false ↦ more ]

  -- the row that was put is found
  pub found_put : (rs : List R) → test r ≡ true → is_some (find test (put order r rs)) ≡ true
  found_put [] t = one_found r [] t
  found_put (x ∷ xs) t = found_by_order x xs t (found_put xs t) (order r x)

  still_by_order : (x : R) (xs : List R) → ((q : R) → order r q ≡ Equal → test q ≡ true → test r ≡ true) → (b : Bool) → test x ≡ b → is_some (cond b (Some x) (find test xs)) ≡ true → (is_some (find test xs) ≡ true → is_some (find test (put order r xs)) ≡ true) → (o : Ordering) → order r x ≡ o → is_some (find test (match_ordering o (r ∷ x ∷ xs) (r ∷ xs) (x ∷ put order r xs))) ≡ true
  still_by_order x xs keeps true t f more Less l = elim (test r) as (λ b. is_some (cond b (Some r) (find test (x ∷ xs))) ≡ true) [ true ↦ refl | false ↦ one_found x xs t ]
  still_by_order x xs keeps true t f more Equal l = one_found r xs (keeps x l t)
  still_by_order x xs keeps true t f more Greater l = one_found x (put order r xs) t
  still_by_order x xs keeps false t f more Less l = elim (test r) as (λ b. is_some (cond b (Some r) (find test (x ∷ xs))) ≡ true) [ true ↦ refl | false ↦ ap (λ b. is_some (cond b (Some x) (find test xs))) t ∙ f ]
  still_by_order x xs keeps false t f more Equal l = elim (test r) as (λ b. is_some (cond b (Some r) (find test xs)) ≡ true) [ true ↦ refl | false ↦ f ]
  still_by_order x xs keeps false t f more Greater l = ap (λ b. is_some (cond b (Some x) (find test (put order r xs)))) t ∙ more f

  -- what was found is found still
  pub found_still : (rs : List R) → ((q : R) → order r q ≡ Equal → test q ≡ true → test r ≡ true) → is_some (find test rs) ≡ true → is_some (find test (put order r rs)) ≡ true
  found_still [] keeps f = absurd (false≢true f)
  found_still (x ∷ xs) keeps f = still_by_order x xs keeps (test x) refl f (found_still xs keeps) (order r x) refl

  same_by_order : (x : R) (xs : List R) → test r ≡ false → ((q : R) → order r q ≡ Equal → test q ≡ false) → find test (put order r xs) ≡ find test xs → (o : Ordering) → order r x ≡ o → find test (match_ordering o (r ∷ x ∷ xs) (r ∷ xs) (x ∷ put order r xs)) ≡ find test (x ∷ xs)
  same_by_order x xs t keeps more Less l = ap (λ b. cond b (Some r) (find test (x ∷ xs))) t
  same_by_order x xs t keeps more Equal l = ap (λ b. cond b (Some r) (find test xs)) t ∙ sym (ap (λ b. cond b (Some x) (find test xs)) (keeps x l))
  same_by_order x xs t keeps more Greater l = ap (λ o. cond (test x) (Some x) o) more

  -- another key finds what it found
  pub found_same : (rs : List R) → test r ≡ false → ((q : R) → order r q ≡ Equal → test q ≡ false) → find test (put order r rs) ≡ find test rs
  found_same [] t keeps = ap (λ b. cond b (Some r) (find test [])) t
  found_same (x ∷ xs) t keeps = same_by_order x xs t keeps (found_same xs t keeps) (order r x) refl

  new_by_order : (x : R) (xs : List R) → test r ≡ true → (b : Bool) → test x ≡ b → is_some (cond b (Some x) (find test xs)) ≡ false → (is_some (find test xs) ≡ false → find test (put order r xs) ≡ Some r) → (o : Ordering) → find test (match_ordering o (r ∷ x ∷ xs) (r ∷ xs) (x ∷ put order r xs)) ≡ Some r
  new_by_order x xs t true u f more o = absurd (false≢true (sym f))
  new_by_order x xs t false u f more Less = ap (λ b. cond b (Some r) (find test (x ∷ xs))) t
  new_by_order x xs t false u f more Equal = ap (λ b. cond b (Some r) (find test xs)) t
  new_by_order x xs t false u f more Greater = ap (λ b. cond b (Some x) (find test (put order r xs))) u ∙ more f

  -- a new row is found
  pub found_new : (rs : List R) → test r ≡ true → is_some (find test rs) ≡ false → find test (put order r rs) ≡ Some r
  found_new [] t f = ap (λ b. cond b (Some r) (find test [])) t
  found_new (x ∷ xs) t f = new_by_order x xs t (test x) refl f (found_new xs t) (order r x)

-- ---- rows of which a function keeps the key

module _ {P R : Type 0} (f : R → P) (ro : R → R → Ordering) (po : P → P → Ordering) (agrees : (a b : R) → ro a b ≡ po (f a) (f b)) where
  kept_by_order : (r x : R) (xs : List R) → map f (put ro r xs) ≡ put po (f r) (map f xs)
      → (o : Ordering) → map f (match_ordering o (r ∷ x ∷ xs) (r ∷ xs) (x ∷ put ro r xs)) ≡ match_ordering o (f r ∷ f x ∷ map f xs) (f r ∷ map f xs) (f x ∷ put po (f r) (map f xs))
  kept_by_order r x xs more Less = refl
  kept_by_order r x xs more Equal = refl
  kept_by_order r x xs more Greater = ap (λ ys. f x ∷ ys) more

  -- what is put among them is put among what is kept of them
  pub put_kept : (r : R) (rs : List R) → map f (put ro r rs) ≡ put po (f r) (map f rs)
  put_kept r [] = refl
  put_kept r (x ∷ xs) = kept_by_order r x xs (put_kept r xs) (ro r x) ∙ ap (λ o. match_ordering o (f r ∷ f x ∷ map f xs) (f r ∷ map f xs) (f x ∷ put po (f r) (map f xs))) (agrees r x)

-- what is kept of rows that were made of others is those
pub map_back : {P R : Type 0} (f : R → P) (g : P → R) → ((p : P) → f (g p) ≡ p) → (ps : List P) → map f (map g ps) ≡ ps
map_back f g e [] = refl
map_back f g e (p ∷ ps) = λ i. e p i ∷ map_back f g e ps i
