-- Positions in a list, found one after the other.
use Rattle.std.proofs.Common.{◌≡◌, ◌∙◌, ℕ, ◌+◌, ◌-◌, ◌<◌, ◌≤◌, Bool, true, false, List, ◌∷◌, length, take, drop, get_or, Option, Some, None, refl, ap, sym, arith, if◌then◌else◌, length-drop, take_all}
use Rattle.std.proofs.lemmas.List.{at_drop_more, at_drop_all}
use Rattle.plant_text_checks.specs.{index_of, one_more, pair_of, pair_with}

-- a position by so many more
abbrev pub place_on : ℕ → Option ℕ → Option ℕ
place_on k None = None
place_on k (Some n) = Some (k + n)

abbrev pub pair_on : ℕ → Option (ℕ × ℕ) → Option (ℕ × ℕ)
pair_on k None = None
pair_on k (Some p) = Some (k + p.0, k + p.1)

pub index_first : (o : Option ℕ) → o ≡ place_on 0 o
index_first None = refl
index_first (Some n) = ap Some (omega arith)

pub pair_first : (o : Option (ℕ × ℕ)) → o ≡ pair_on 0 o
pair_first None = refl
pair_first (Some p) = ap (λ (q : ℕ × ℕ). Some q) (λ j. (left j, right j))
  where
    left : p.0 ≡ 0 + p.0
    left = omega arith

    right : p.1 ≡ 0 + p.1
    right = omega arith

place_next : (i : ℕ) (o : Option ℕ) → place_on i (one_more o) ≡ place_on (i + 1) o
place_next i None = refl
place_next i (Some n) = ap Some (omega arith)

pair_next : (i : ℕ) (o : Option (ℕ × ℕ)) → pair_on i (pair_with None o) ≡ pair_on (i + 1) o
pair_next i None = refl
pair_next i (Some p) = ap (λ (q : ℕ × ℕ). Some q) (λ j. (left j, right j))
  where
    left : i + (p.0 + 1) ≡ i + 1 + p.0
    left = omega arith

    right : i + (p.1 + 1) ≡ i + 1 + p.1
    right = omega arith

-- at the index of an item that passes, and after one that doesn't
pub index_met : {A : Type 0} (p : A → Bool) (xs : List A) (i : ℕ) (x : A) → i < length xs → x ≡ get_or xs i x → true ≡ p x → Some i ≡ place_on i (index_of p (drop i xs))
index_met p xs i x within is passes =
    let here : index_of p (drop i xs) ≡ index_of p (x ∷ drop (i + 1) xs) = at_drop_more (index_of p) xs i x within ∙ ap (λ y. index_of p (y ∷ drop (i + 1) xs)) (sym is) in
    let first : index_of p (x ∷ drop (i + 1) xs) ≡ Some 0 = ap (λ b. if b then Some 0 else one_more (index_of p (drop (i + 1) xs))) (sym passes) in
    ap Some (omega arith) ∙ sym (ap (place_on i) (here ∙ first))

pub index_passed : {A : Type 0} (p : A → Bool) (xs : List A) (i : ℕ) (x : A) → i < length xs → x ≡ get_or xs i x → false ≡ p x → place_on i (index_of p (drop i xs)) ≡ place_on (i + 1) (index_of p (drop (i + 1) xs))
index_passed p xs i x within is fails =
    let here : index_of p (drop i xs) ≡ index_of p (x ∷ drop (i + 1) xs) = at_drop_more (index_of p) xs i x within ∙ ap (λ y. index_of p (y ∷ drop (i + 1) xs)) (sym is) in
    let later : index_of p (x ∷ drop (i + 1) xs) ≡ one_more (index_of p (drop (i + 1) xs)) = ap (λ b. if b then Some 0 else one_more (index_of p (drop (i + 1) xs))) (sym fails) in
    ap (place_on i) (here ∙ later) ∙ place_next i (index_of p (drop (i + 1) xs))

pub index_none_left : {A : Type 0} (p : A → Bool) (xs : List A) (i : ℕ) → length xs ≤ i → None ≡ place_on i (index_of p (drop i xs))
index_none_left p xs i le = sym (ap (place_on i) (at_drop_all (index_of p) xs i le))

-- the same of pairs, by what is found after an item
pub pair_met : {A : Type 0} (again : A → A → Bool) (xs : List A) (i : ℕ) (x : A) (n : ℕ) → i < length xs → x ≡ get_or xs i x → Some n ≡ index_of (again x) (drop (i + 1) xs) → Some (i, i + 1 + n) ≡ pair_on i (pair_of again (drop i xs))
pair_met again xs i x n within is found =
    let here : pair_of again (drop i xs) ≡ pair_of again (x ∷ drop (i + 1) xs) = at_drop_more (pair_of again) xs i x within ∙ ap (λ y. pair_of again (y ∷ drop (i + 1) xs)) (sym is) in
    let first : pair_of again (x ∷ drop (i + 1) xs) ≡ Some (0, n + 1) = ap (λ o. pair_with o (pair_of again (drop (i + 1) xs))) (sym found) in
    let left : i ≡ i + 0 = omega arith in
    let right : i + 1 + n ≡ i + (n + 1) = omega arith in
    ap (λ (q : ℕ × ℕ). Some q) (λ j. (left j, right j)) ∙ sym (ap (pair_on i) (here ∙ first))

pub pair_passed : {A : Type 0} (again : A → A → Bool) (xs : List A) (i : ℕ) (x : A) → i < length xs → x ≡ get_or xs i x → None ≡ index_of (again x) (drop (i + 1) xs) → pair_on i (pair_of again (drop i xs)) ≡ pair_on (i + 1) (pair_of again (drop (i + 1) xs))
pair_passed again xs i x within is none =
    let here : pair_of again (drop i xs) ≡ pair_of again (x ∷ drop (i + 1) xs) = at_drop_more (pair_of again) xs i x within ∙ ap (λ y. pair_of again (y ∷ drop (i + 1) xs)) (sym is) in
    let later : pair_of again (x ∷ drop (i + 1) xs) ≡ pair_with None (pair_of again (drop (i + 1) xs)) = ap (λ o. pair_with o (pair_of again (drop (i + 1) xs))) (sym none) in
    ap (pair_on i) (here ∙ later) ∙ pair_next i (pair_of again (drop (i + 1) xs))

pub pair_none_left : {A : Type 0} (again : A → A → Bool) (xs : List A) (i : ℕ) → length xs ≤ i → None ≡ pair_on i (pair_of again (drop i xs))
pair_none_left again xs i le = sym (ap (pair_on i) (at_drop_all (pair_of again) xs i le))

-- all that come after
pub rest_all : {A : Type 0} (xs : List A) (i : ℕ) → take (length xs - i) (drop i xs) ≡ drop i xs
rest_all xs i = take_all (length xs - i) (drop i xs) (omega (arith, length-drop i xs))
