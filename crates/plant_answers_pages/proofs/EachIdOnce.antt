-- The ids of rows that are in the order of their ids, each once.
use Rattle.std.proofs.Common.{◌≡◌, ◌∙◌, ◌≤◌, ℕ, zero, suc, Bool, true, false, cond, not, List, [], ◌∷◌, ◌++◌, map, filter, find, take, is_some, Option, Some, None, option_to_list, refl, sym, ap, arith, slice_get, option_and_then, is_eq, is_gt, Ordering, Less, Equal, Greater, if◌then◌else◌}
use Rattle.std.specs.Ordering.{ordering_reverse}
use Rattle.std.specs.List.{AllByRecursion}
use Rattle.std.specs.List.Sorted.{IsStrictlySortedBy}
use Rattle.std.proofs.lemmas.Cmp.{nat_list_cmp_total}
use Rattle.std.proofs.lemmas.List.Kept.{IsStrictlySortedBy-filter}
use Rattle.std.specs.Prelude.{⊤}
use Rattle.plant_base.specs.{id_cmp, same}
use Rattle.plant_base.proofs.KeyOrders.{same_id}
use Rattle.plant_base.proofs.PutKeepsOrder.{all_weaker}
use Rattle.plant_questions.specs.{is_after, begins_with, first_begun, most_found}
use Rattle.plant_questions.proofs.FoundRows.{of_mapped}
use Rattle.plant_answers_pages.specs.{each_id_once, own_first}
use Rattle.plant_answers_pages.proofs.BegunIds.{turned, same_is, equal_is, own_equal, not_before, begins_itself, begun_split, none_begin, all_past, all_take}

-- ---- lists

module _ {X : Type 0} (q t : X → Bool) where
  -- two tests in either order
  filter_swapped : (xs : List X) → filter q (filter t xs) ≡ filter t (filter q xs)
  filter_swapped [] = refl
  filter_swapped (x ∷ xs) = by (q x) (t x) refl refl (filter_swapped xs)
    where
      by : (a b : Bool) → q x ≡ a → t x ≡ b → filter q (filter t xs) ≡ filter t (filter q xs) → filter q (cond b (x ∷ filter t xs) (filter t xs)) ≡ filter t (cond a (x ∷ filter q xs) (filter q xs))
      by true true e f rest = rw (e, f) (ap (λ l. x ∷ l) rest)
      by true false e f rest = rw f rest
      by false true e f rest = rw e rest
      by false false e f rest = rest

  -- a test that passes none that the other fails
  filter_within : ((x : X) → t x ≡ false → q x ≡ false) → (xs : List X) → filter q (filter t xs) ≡ filter q xs
  filter_within fails [] = refl
  filter_within fails (x ∷ xs) = by (t x) refl (filter_within fails xs)
    where
      by : (b : Bool) → t x ≡ b → filter q (filter t xs) ≡ filter q xs → filter q (cond b (x ∷ filter t xs) (filter t xs)) ≡ cond (q x) (x ∷ filter q xs) (filter q xs)
      by true e rest = ap (λ l. cond (q x) (x ∷ l) l) rest
      by false e rest = rw (fails x e) rest

all_so : {X : Type 0} {Q : X → Type 0} → ((x : X) → Q x) → (xs : List X) → AllByRecursion Q xs
all_so f [] = tt
all_so f (x ∷ xs) = (f x, all_so f xs)

module _ {X : Type 0} (t : X → Bool) where
  all_kept : (Q : X → Type 0) (xs : List X) → AllByRecursion Q xs → AllByRecursion (λ x. Q x × (t x ≡ true)) (filter t xs)
  all_kept Q [] all = tt
  all_kept Q (x ∷ xs) all = by (t x) refl (all_kept Q xs all.1)
    where
      by : (b : Bool) → t x ≡ b → AllByRecursion (λ x. Q x × (t x ≡ true)) (filter t xs) → AllByRecursion (λ x. Q x × (t x ≡ true)) (cond b (x ∷ filter t xs) (filter t xs))
      by true e rest = ((all.0, e), rest)
      by false e rest = rest

-- ---- each once

abbrev other_than : List ℕ → List ℕ → Bool
other_than id other = not (same id other)

not_false : (b : Bool) → not b ≡ false → b ≡ true
not_false true e = refl
not_false false e = absurd cc

pub once_filtered : (q : List ℕ → Bool) (ids : List (List ℕ)) → each_id_once (filter q ids) ≡ filter q (each_id_once ids)
once_filtered q [] = refl
once_filtered q (x ∷ xs) = by (q x) refl (once_filtered q xs)
  where
    by : (b : Bool) → q x ≡ b → each_id_once (filter q xs) ≡ filter q (each_id_once xs) → each_id_once (cond b (x ∷ filter q xs) (filter q xs)) ≡ cond b (x ∷ filter q (filter (other_than x) (each_id_once xs))) (filter q (filter (other_than x) (each_id_once xs)))
    by true e rest = ap (λ l. x ∷ l) (ap (filter (other_than x)) rest ∙ sym (filter_swapped q (other_than x) (each_id_once xs)))
    by false e rest = rest ∙ sym (filter_within q (other_than x) (λ y not_other. ap q (sym (same_id x y (not_false (same x y) not_other))) ∙ e) (each_id_once xs))

-- what holds of the ids holds of them
once_all : (Q : List ℕ → Type 0) (ids : List (List ℕ)) → AllByRecursion Q ids → AllByRecursion Q (each_id_once ids)
once_all Q [] all = tt
once_all Q (x ∷ xs) all = (all.0, all_weaker (λ y. Q y × (other_than x y ≡ true)) Q (λ y both. both.0) (filter (other_than x) (each_id_once xs)) (all_kept (other_than x) Q (each_id_once xs) (once_all Q xs all.1)))

-- none comes before one that comes before it in the list
abbrev pub Rising : List (List ℕ) → Type 0
Rising [] = ⊤
Rising (x ∷ xs) = AllByRecursion (λ y. id_cmp x y ≡ Greater → ⊥) xs × Rising xs

less_of : (x y : List ℕ) → (id_cmp x y ≡ Greater → ⊥) → other_than x y ≡ true → id_cmp x y ≡ Less
less_of x y rises other = by (id_cmp x y) refl
  where
    by : (o : Ordering) → id_cmp x y ≡ o → id_cmp x y ≡ Less
    by Less e = e
    by Equal e = absurd (let tie : same x y ≡ true = same_is x y ∙ ap is_eq e in let no : false ≡ true = rw tie at other in cc)
    by Greater e = absurd (rises e)

pub once_sorted : (ids : List (List ℕ)) → Rising ids → IsStrictlySortedBy id_cmp (each_id_once ids)
unfolding IsStrictlySortedBy
once_sorted [] rising = tt
once_sorted (x ∷ xs) rising = (
  all_weaker (λ y. (id_cmp x y ≡ Greater → ⊥) × (other_than x y ≡ true)) (λ y. id_cmp x y ≡ Less) (λ y both. less_of x y both.0 both.1) (filter (other_than x) (each_id_once xs))
      (all_kept (other_than x) (λ y. id_cmp x y ≡ Greater → ⊥) (each_id_once xs) (once_all (λ y. id_cmp x y ≡ Greater → ⊥) xs rising.0)),
  IsStrictlySortedBy-filter id_cmp (other_than x) (each_id_once xs) (once_sorted xs rising.1),
)

-- an id is among them where it is among the ids
pub once_has : (p : List ℕ) (ids : List (List ℕ)) → is_some (find (λ id. same id p) (each_id_once ids)) ≡ is_some (find (λ id. same id p) ids)
once_has p [] = refl
once_has p (x ∷ xs) = by (same x p) refl (once_has p xs)
  where
    found_still : (x : List ℕ) → same x p ≡ false → (ys : List (List ℕ)) → is_some (find (λ id. same id p) (filter (other_than x) ys)) ≡ is_some (find (λ id. same id p) ys)
    found_still x other [] = refl
    found_still x other (y ∷ ys) = each (same x y) refl (found_still x other ys)
      where
        each : (b : Bool) → same x y ≡ b → is_some (find (λ id. same id p) (filter (other_than x) ys)) ≡ is_some (find (λ id. same id p) ys)
            → is_some (find (λ id. same id p) (cond (not b) (y ∷ filter (other_than x) ys) (filter (other_than x) ys))) ≡ is_some (cond (same y p) (Some y) (find (λ id. same id p) ys))
        each true e rest = let is : same y p ≡ false = ap (λ (z : List ℕ). same z p) (sym (same_id x y e)) ∙ other in rw is rest
        each false e rest = past (same y p) rest
          where
            past : (c : Bool) → is_some (find (λ id. same id p) (filter (other_than x) ys)) ≡ is_some (find (λ id. same id p) ys) → is_some (cond c (Some y) (find (λ id. same id p) (filter (other_than x) ys))) ≡ is_some (cond c (Some y) (find (λ id. same id p) ys))
            past true rest = refl
            past false rest = rest

    by : (b : Bool) → same x p ≡ b → is_some (find (λ id. same id p) (each_id_once xs)) ≡ is_some (find (λ id. same id p) xs)
        → is_some (cond b (Some x) (find (λ id. same id p) (filter (other_than x) (each_id_once xs)))) ≡ is_some (cond b (Some x) (find (λ id. same id p) xs))
    by true e rest = refl
    by false e rest = found_still x e (each_id_once xs) ∙ rest

-- ---- the next id after a cursor

greater_of : (o : Ordering) → is_gt o ≡ true → o ≡ Greater
greater_of Less e = absurd cc
greater_of Equal e = absurd cc
greater_of Greater e = refl

turned_back : (x y : List ℕ) → id_cmp x y ≡ Greater → id_cmp y x ≡ Less
turned_back x y more = nat_list_cmp_total.antisymm y x ∙ ap ordering_reverse more

further : (x y z : List ℕ) → id_cmp x y ≡ Greater → id_cmp y z ≡ Greater → id_cmp x z ≡ Greater
further x y z a b = turned z x (nat_list_cmp_total.trans z y x (turned_back y z b) (turned_back x y a))

map_same : {X : Type 0} (xs : List X) → map (λ x. x) xs ≡ xs
map_same [] = refl
map_same (x ∷ xs) = ap (λ l. x ∷ l) (map_same xs)

-- an id that begins with another isn't before it
past_beginning : (p c x : List ℕ) → begins_with p c ≡ true → id_cmp x c ≡ Greater → id_cmp x p ≡ Greater
past_beginning p c x within more = by (id_cmp c p) refl
  where
    by : (o : Ordering) → id_cmp c p ≡ o → id_cmp x p ≡ Greater
    by Less e = absurd (let no : false ≡ true = sym (not_before p c e) ∙ within in cc)
    by Equal e = ap (id_cmp x) (sym (equal_is c p e)) ∙ more
    by Greater e = further x c p more e

module _ (list : List (List ℕ)) (sorted : IsStrictlySortedBy id_cmp list) (c x : List ℕ) (tail : List (List ℕ)) (is : filter (is_after (Some c)) list ≡ x ∷ tail) where
  first_after : id_cmp x c ≡ Greater
  first_after =
      let kept : AllByRecursion (λ y. ⊤ × (is_after (Some c) y ≡ true)) (x ∷ tail) = rw is at (all_kept (is_after (Some c)) (λ y. ⊤) list (all_so (λ y. tt) list)) in
      greater_of (id_cmp x c) kept.0.1

  rest_sorted : IsStrictlySortedBy id_cmp (x ∷ tail)
  rest_sorted = rw is at (IsStrictlySortedBy-filter id_cmp (is_after (Some c)) list sorted)

  rest_later : AllByRecursion (λ y. id_cmp x y ≡ Less) tail
  unfolding IsStrictlySortedBy
  rest_later = rest_sorted.0

  none_between : (y : List ℕ) → is_after (Some c) y ≡ false → is_after (Some x) y ≡ false
  none_between y low = by (id_cmp y x) refl
    where
      by : (o : Ordering) → id_cmp y x ≡ o → is_gt o ≡ false
      by Less e = refl
      by Equal e = refl
      by Greater e = absurd (let so : false ≡ true = sym low ∙ ap is_gt (further y x c e first_after) in cc)

  -- what comes after the first of those after a cursor is the rest of them
  rest_after : filter (is_after (Some x)) list ≡ tail
  rest_after =
      let past : AllByRecursion (λ y. id_cmp y x ≡ Greater) tail = all_weaker (λ y. id_cmp x y ≡ Less) (λ y. id_cmp y x ≡ Greater) (λ y less. turned x y less) tail rest_later in
      sym (filter_within (is_after (Some x)) (is_after (Some c)) none_between list)
      ∙ ap (filter (is_after (Some x))) is ∙ rw (own_equal x) refl ∙ all_past (λ y. y) x tail past

module _ {R : Type 0} (key : R → List ℕ) (rows : List R) (sorted : IsStrictlySortedBy id_cmp (each_id_once (map key rows))) (p : List ℕ) where
  abbrev list : List (List ℕ)
  list = each_id_once (map key rows)

  abbrev after : List ℕ → List R
  after c = filter (λ r. is_after (Some c) (key r)) rows

  abbrev pub left : Option (List ℕ) → List (List ℕ)
  left None = []
  left (Some c) = filter (begins_with p) (each_id_once (map key (after c)))

  abbrev pub begun_id : R → Option (List ℕ)
  begun_id r = if begins_with p (key r) then Some (key r) else None

  abbrev pub IsWithin : Option (List ℕ) → Type 0
  IsWithin None = ⊤
  IsWithin (Some c) = begins_with p c ≡ true

  after_is : (c : List ℕ) → each_id_once (map key (after c)) ≡ filter (is_after (Some c)) list
  after_is c = ap each_id_once (sym (of_mapped key (is_after (Some c)) (λ r. is_after (Some c) (key r)) (λ r. refl) rows)) ∙ once_filtered (is_after (Some c)) (map key rows)

  pub next_is : (c : List ℕ) → begins_with p c ≡ true → (next : Option (List ℕ)) → next ≡ option_and_then begun_id (slice_get (after c) 0) → (left (Some c) ≡ option_to_list next ++ left next) × IsWithin next
  next_is c within next e = by (after c) refl next e
    where
      by : (found : List R) → after c ≡ found → (next : Option (List ℕ)) → next ≡ option_and_then begun_id (slice_get found 0) → (filter (begins_with p) (each_id_once (map key (after c))) ≡ option_to_list next ++ left next) × IsWithin next
      by [] is next e = rw (e, is) (refl, tt)
      by (r ∷ rs) is next e =
          let here : filter (is_after (Some c)) list ≡ key r ∷ filter (other_than (key r)) (each_id_once (map key rs)) = sym (after_is c) ∙ ap (λ l. each_id_once (map key l)) is in
          each (begins_with p (key r)) refl e here
        where
          tail : List (List ℕ)
          tail = filter (other_than (key r)) (each_id_once (map key rs))

          each : (b : Bool) → begins_with p (key r) ≡ b → next ≡ cond b (Some (key r)) None → filter (is_after (Some c)) list ≡ key r ∷ tail
              → (filter (begins_with p) (each_id_once (map key (after c))) ≡ option_to_list next ++ left next) × IsWithin next
          each true begun e here = rw (e, after_is c, here, after_is (key r), rest_after list sorted c (key r) tail here) (rw begun refl, begun)
          each false other e here =
              let past = past_beginning p c (key r) within (first_after list sorted c (key r) tail here) in
              rw (e, after_is c, here) (rw other (sym (ap (filter (begins_with p)) (map_same tail)) ∙ none_begin (λ id. id) p (key r) past other tail (rest_later list sorted c (key r) tail here)), tt)

  take_twice : (n m : ℕ) → n ≤ m → (xs : List (List ℕ)) → take n (take m xs) ≡ take n xs
  take_twice zero m le xs = refl
  take_twice (suc n) zero le xs = absurd (omega (arith, le))
  take_twice (suc n) (suc m) le [] = refl
  take_twice (suc n) (suc m) le (x ∷ xs) = ap (λ l. x ∷ l) (take_twice n m (omega (arith, le)) xs)

  all_pass : (xs : List (List ℕ)) → AllByRecursion (λ x. ⊤ × (begins_with p x ≡ true)) xs → filter (begins_with p) xs ≡ xs
  all_pass [] all = refl
  all_pass (x ∷ xs) all = rw all.0.1 (ap (λ l. x ∷ l) (all_pass xs all.1))

  -- the first of those that begin so are the first of the first of them
  first_again : (n m : ℕ) → n ≤ m → (ids : List (List ℕ)) → take n (filter (begins_with p) (take m (filter (begins_with p) ids))) ≡ take n (filter (begins_with p) ids)
  first_again n m le ids =
      let begun = filter (begins_with p) ids in
      ap (take n) (all_pass (take m begun) (all_take (λ (x : List ℕ). x) p (λ x. ⊤ × (begins_with p x ≡ true)) m begun (all_kept (begins_with p) (λ x. ⊤) ids (all_so (λ x. tt) ids)))) ∙ take_twice n m le begun

  own_again : (n : ℕ) (b : Bool) (ids : List (List ℕ)) → take (suc n) (filter (begins_with p) (own_first b p (take (suc n) (filter (begins_with p) ids)))) ≡ take (suc n) (filter (begins_with p) (own_first b p ids))
  own_again n true ids = rw (begins_itself p) (ap (λ l. p ∷ l) (first_again n (suc n) (omega arith) ids))
  own_again n false ids = first_again (suc n) (suc n) (omega arith) ids

  -- the first that begin with it are among itself, where it is there, and the first of those that are left after it
  pub begun_once : first_begun p list ≡ first_begun p (own_first (is_some (find (λ r. same (key r) p) rows)) p (take most_found (left (Some p))))
  begun_once =
      let there : is_some (find (λ id. same id p) list) ≡ is_some (find (λ r. same (key r) p) rows) = once_has p (map key rows) ∙ found_key rows in
      let beyond = filter (is_after (Some p)) list in
      let split : filter (begins_with p) list ≡ filter (begins_with p) (own_first (is_some (find (λ r. same (key r) p) rows)) p beyond) =
      ap (filter (begins_with p)) (sym (map_same list)) ∙ begun_split (λ id. id) p list sorted ∙ (λ i. filter (begins_with p) (own_first (there i) p (map_same beyond i))) in
      ap (take most_found) split ∙ sym (own_again 19 (is_some (find (λ r. same (key r) p) rows)) beyond)
      ∙ ap (λ l. first_begun p (own_first (is_some (find (λ r. same (key r) p) rows)) p (take most_found (filter (begins_with p) l)))) (sym (after_is p))
    where
      found_key : (rs : List R) → is_some (find (λ id. same id p) (map key rs)) ≡ is_some (find (λ r. same (key r) p) rs)
      found_key [] = refl
      found_key (r ∷ rs) = by (same (key r) p) (found_key rs)
        where
          by : (b : Bool) → is_some (find (λ id. same id p) (map key rs)) ≡ is_some (find (λ r. same (key r) p) rs) → is_some (cond b (Some (key r)) (find (λ id. same id p) (map key rs))) ≡ is_some (cond b (Some r) (find (λ r. same (key r) p) rs))
          by true rest = refl
          by false rest = rest
