-- What a test leaves of a list.
use Rattle.std.proofs.Common.{◌≡◌, ◌∙◌, sym, ℕ, zero, suc, ◌-◌, ◌<◌, ◌≤◌, Bool, true, false, List, [], ◌∷◌, length, cond, refl, ap, map, take, drop, get_or, find, Some, None, arith, filter, All}
use Rattle.std.specs.List.Sorted.{IsStableBy, ties}
use Rattle.std.proofs.lemmas.List.Elements.{All-head, filter_agree, filter_passes}

pub filter_of_map : {X Y : Type 0} (p : Y → Bool) (f : X → Y) (xs : List X) → filter p (map f xs) ≡ map f (filter (λ x. p (f x)) xs)
filter_of_map p f [] = refl
filter_of_map {X} p f (x ∷ xs) = rw (filter_of_map p f xs) (by (p (f x)) (filter (λ x. p (f x)) xs))
  where
    by : (b : Bool) (ys : List X) → cond b (f x ∷ map f ys) (map f ys) ≡ map f (cond b (x ∷ ys) ys)
    by true ys = refl
    by false ys = refl

-- of those that pass a weaker test the same pass
pub filter_within : {X : Type 0} (p q : X → Bool) → ((x : X) → p x ≡ true → q x ≡ true) → (xs : List X) → filter p (filter q xs) ≡ filter p xs
filter_within p q weaker [] = refl
filter_within {X} p q weaker (x ∷ xs) = by (q x) (p x) refl refl (filter_within p q weaker xs)
  where
    by : (b c : Bool) → q x ≡ b → p x ≡ c → filter p (filter q xs) ≡ filter p xs → filter p (cond (q x) (x ∷ filter q xs) (filter q xs)) ≡ cond (p x) (x ∷ filter p xs) (filter p xs)
    by true c e f rest = rw e (ap (λ ys. cond (p x) (x ∷ ys) ys) rest)
    by false true e f rest = cc (weaker x f)
    by false false e f rest = rw (e, f) rest

-- where the elements that pass tie with each of them, a stable order keeps what passes
pub stable_keeps : {X : Type 0} (p : X → Bool) (lt : X → X → Bool) → ((x : X) → p x ≡ true → (y : X) → p y ≡ ties lt x y) → (xs ys : List X) → IsStableBy lt xs ys → filter p ys ≡ filter p xs
stable_keeps {X} p lt tied xs ys stable = by (filter p ys) (filter p xs) (filter_passes p ys) (filter_passes p xs) along
  where
    along : (x : X) → p x ≡ true → filter p ys ≡ filter p xs
    along x passes = filter_agree p (ties lt x) (tied x passes) ys ∙ stable x ∙ sym (filter_agree p (ties lt x) (tied x passes) xs)

    by : (us vs : List X) → All (λ x. p x ≡ true) us → All (λ x. p x ≡ true) vs → ((x : X) → p x ≡ true → us ≡ vs) → us ≡ vs
    by [] [] h k same = refl
    by (u ∷ us) vs h k same = same u (All-head (λ x. p x ≡ true) u us h)
    by [] (v ∷ vs) h k same = same v (All-head (λ x. p x ≡ true) v vs k)

-- what passes is what lies from start up to end
pub passes_between : {X : Type 0} (p : X → Bool) (xs : List X) (start end : ℕ) → start ≤ end →
    ((k : ℕ) (d : X) → k < start → k < length xs → p (get_or xs k d) ≡ false) →
    ((k : ℕ) (d : X) → start ≤ k → k < end → k < length xs → p (get_or xs k d) ≡ true) →
    ((k : ℕ) (d : X) → end ≤ k → k < length xs → p (get_or xs k d) ≡ false) →
    filter p xs ≡ take (end - start) (drop start xs)
passes_between p [] start end o before within behind = nothing (end - start) start
  where
    nothing : {Y : Type 0} (n m : ℕ) → (let none : List Y = [] in none ≡ take n (drop m none))
    nothing zero zero = refl
    nothing (suc n) zero = refl
    nothing zero (suc m) = refl
    nothing (suc n) (suc m) = refl
passes_between p (x ∷ xs) zero zero o before within behind =
    rw (behind zero x (omega arith) (omega arith), passes_between p xs zero zero o (λ k d h. absurd (omega arith)) (λ k d h i. absurd (omega arith)) (λ k d h l. behind (suc k) d (omega arith) (omega arith))) refl
passes_between p (x ∷ xs) zero (suc end) o before within behind =
    let more : suc end - 0 ≡ suc (end - 0) = omega arith in
    rw (more, within zero x (omega arith) (omega arith) (omega arith), passes_between p xs zero end (omega arith) (λ k d h. absurd (omega arith)) (λ k d h i l. within (suc k) d (omega arith) (omega arith) (omega arith)) (λ k d h l. behind (suc k) d (omega arith) (omega arith))) refl
passes_between p (x ∷ xs) (suc start) zero o before within behind = absurd (omega arith)
passes_between p (x ∷ xs) (suc start) (suc end) o before within behind =
    let same : suc end - suc start ≡ end - start = omega arith in
    rw (same, before zero x (omega arith) (omega arith), passes_between p xs start end (omega arith) (λ k d h l. before (suc k) d (omega arith) (omega arith)) (λ k d h i l. within (suc k) d (omega arith) (omega arith) (omega arith)) (λ k d h l. behind (suc k) d (omega arith) (omega arith))) refl

pub find_none : {X : Type 0} (p : X → Bool) (xs : List X) → ((k : ℕ) (d : X) → k < length xs → p (get_or xs k d) ≡ false) → find p xs ≡ None
find_none p [] h = refl
find_none p (x ∷ xs) h = rw (h zero x (omega arith)) (find_none p xs (λ k d l. h (suc k) d (omega arith)))

pub find_at : {X : Type 0} (p : X → Bool) (xs : List X) (start : ℕ) (d : X) → start < length xs → ((k : ℕ) (e : X) → k < start → p (get_or xs k e) ≡ false) → p (get_or xs start d) ≡ true → find p xs ≡ Some (get_or xs start d)
find_at p [] start d h before e = absurd (omega arith)
find_at p (x ∷ xs) zero d h before e = rw e refl
find_at p (x ∷ xs) (suc start) d h before e = rw (before zero x (omega arith)) (find_at p xs start d (omega arith) (λ k f l. before (suc k) f (omega arith)) e)
