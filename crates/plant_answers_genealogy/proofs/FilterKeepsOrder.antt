-- What is in a list of which some are picked, and in which order.
use Rattle.std.proofs.Common.{◌≡◌, ◌∙◌, List, [], ◌∷◌, Option, Some, None, refl, sym, subst, ap, ⊎_elim, Contains, filter_map, Ordering, Less}
use Rattle.std.specs.List.{AllByRecursion, cons_option}
use Rattle.std.specs.List.Sorted.{IsStrictlySortedBy}
use Rattle.plant_trace.proofs.LeadsIsReach.{none_in, first_in, rest_in, first_or_rest}

module _ {X Y : Type 0} (f : X → Option Y) where
  -- what is picked of one of them
  pub picked_in : (xs : List X) (x : X) (y : Y) → Contains xs x → f x ≡ Some y → Contains (filter_map f xs) y
  picked_in [] x y h e = absurd (none_in x h)
  picked_in (z ∷ zs) x y h e =
      ⊎_elim
      (λ (is : z ≡ x). subst (λ (o : Option Y). Contains (cons_option o (filter_map f zs)) y) (sym (ap f is ∙ e)) (first_in y (filter_map f zs)))
      (λ i. later (f z) (picked_in zs x y i e))
      (first_or_rest z zs x h)
    where
      later : (o : Option Y) → Contains (filter_map f zs) y → Contains (cons_option o (filter_map f zs)) y
      later None i = i
      later (Some w) i = rest_in w (filter_map f zs) y i

  -- and nothing else
  pub picked_from : (xs : List X) (y : Y) → Contains (filter_map f xs) y → (x : X) × (Contains xs x × (f x ≡ Some y))
  picked_from [] y h = absurd (none_in y h)
  picked_from (z ∷ zs) y h = by (f z) refl h (picked_from zs y)
    where
      by : (o : Option Y) → f z ≡ o → Contains (cons_option o (filter_map f zs)) y → (Contains (filter_map f zs) y → (x : X) × (Contains zs x × (f x ≡ Some y))) → (x : X) × (Contains (z ∷ zs) x × (f x ≡ Some y))
      by None e i rest = let m = rest i in (m.0, (rest_in z zs m.0 m.1.0, m.1.1))
      by (Some w) e i rest = ⊎_elim (λ (is : w ≡ y). (z, (first_in z zs, e ∙ ap Some is))) (λ j. let m = rest j in (m.0, (rest_in z zs m.0 m.1.0, m.1.1))) (first_or_rest w (filter_map f zs) y i)

  -- in an order that follows that of the list
  module _ (order : X → X → Ordering) (cursor : Y → Y → Ordering) (rises : (a b : X) (y z : Y) → order a b ≡ Less → f a ≡ Some y → f b ≡ Some z → cursor y z ≡ Less) where
    picked_above : (x : X) (y : Y) → f x ≡ Some y → (xs : List X) → AllByRecursion (λ z. order x z ≡ Less) xs → AllByRecursion (λ w. cursor y w ≡ Less) (filter_map f xs)
    picked_above x y e [] a = tt
    picked_above x y e (z ∷ zs) a = by (f z) refl (picked_above x y e zs a.1)
      where
        by : (o : Option Y) → f z ≡ o → AllByRecursion (λ w. cursor y w ≡ Less) (filter_map f zs) → AllByRecursion (λ w. cursor y w ≡ Less) (cons_option o (filter_map f zs))
        by None g rest = rest
        by (Some w) g rest = (rises x z y w a.0 e g, rest)

    pub picked_sorted : (xs : List X) → IsStrictlySortedBy order xs → IsStrictlySortedBy cursor (filter_map f xs)
    unfolding IsStrictlySortedBy
    picked_sorted [] a = tt
    picked_sorted (x ∷ xs) a = by (f x) refl (picked_sorted xs a.1)
      where
        by : (o : Option Y) → f x ≡ o → IsStrictlySortedBy cursor (filter_map f xs) → IsStrictlySortedBy cursor (cons_option o (filter_map f xs))
        by None g rest = rest
        by (Some y) g rest = (picked_above x y g xs a.0, rest)
