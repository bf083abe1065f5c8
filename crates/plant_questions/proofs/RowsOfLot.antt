-- Rows in the order of their lots: what is between the positions that two searches find is what is of the lot.
use Rattle.std.proofs.Common.{◌≡◌, ◌∙◌, ℕ, suc, ◌+◌, ◌<◌, ◌≤◌, Bool, true, false, List, [], ◌∷◌, ◌++◌, filter, take, drop, length, get_or, refl, sym, ap, arith, is_eq, is_le, is_lt, Ordering, Less, Equal, Greater, append-nil, length-take, length-drop, get_or-take, get_or-drop, take-append-drop}
use Rattle.std.specs.List.Sorted.{IsNonDecreasingBy, IsPartitionPoint, IsPartitionedBy}
use Rattle.std.specs.Ordering.{ordering_index}
use Rattle.std.specs.Cmp.Lexicographic.{texts_ties}
use Rattle.std.proofs.lemmas.Bool.{false≢true}
use Rattle.std.proofs.lemmas.Bool.Decides.{nat_tests}
use Rattle.std.proofs.lemmas.Cmp.{is_lt_index, nat_list_cmp_total}
use Rattle.std.proofs.lemmas.List.Elements.{filter-append}
use Rattle.std.proofs.lemmas.List.Sorted.{searchable_from_sorted}
use Rattle.plant_base.specs.{id_cmp, same}
use Rattle.plant_questions.specs.{Rise, rows_of}

-- ---- what each passes, and what none does

pub none_pass : {X : Type 0} (p : X → Bool) (xs : List X) → ((k : ℕ) (d : X) → k < length xs → p (get_or xs k d) ≡ false) → filter p xs ≡ []
none_pass p [] none = refl
none_pass p (x ∷ xs) none =
    let first : p x ≡ false = none 0 x (omega arith) in
    rw first (none_pass p xs (λ k d low. none (suc k) d (omega (arith, low))))

pub each_pass : {X : Type 0} (p : X → Bool) (xs : List X) → ((k : ℕ) (d : X) → k < length xs → p (get_or xs k d) ≡ true) → filter p xs ≡ xs
each_pass p [] each = refl
each_pass p (x ∷ xs) each =
    let first : p x ≡ true = each 0 x (omega arith) in
    rw first (ap (λ l. x ∷ l) (each_pass p xs (λ k d low. each (suc k) d (omega (arith, low)))))

pub prefix_and_rest : {X : Type 0} (p : X → Bool) (n : ℕ) (xs : List X) → filter p xs ≡ filter p (take n xs) ++ filter p (drop n xs)
prefix_and_rest p n xs = ap (filter p) (sym (take-append-drop n xs)) ∙ filter-append p (take n xs) (drop n xs)

-- ---- by the order of a row's lot and the lot

lt_no : (o : Ordering) → is_lt o ≡ true → is_eq o ≡ false
lt_no Less e = refl
lt_no _ e = absurd (false≢true e)

le_no : (o : Ordering) → is_le o ≡ false → is_eq o ≡ false
le_no Greater e = refl
le_no _ e = absurd (false≢true (sym e))

between_yes : (o : Ordering) → is_lt o ≡ false → is_le o ≡ true → is_eq o ≡ true
between_yes Less e f = absurd (false≢true (sym e))
between_yes Equal e f = refl
between_yes Greater e f = absurd (false≢true f)

-- what comes before one that is less is less, and so with what is at most the same
pub below_lt : (a b : Ordering) → ordering_index a ≤ ordering_index b → is_lt b ≡ true → is_lt a ≡ true
below_lt Less b le h = refl
below_lt a b le h = absurd (grind (arith, nat_tests, is_lt_index a, is_lt_index b))

pub below_le : (a b : Ordering) → ordering_index a ≤ ordering_index b → is_le b ≡ true → is_le a ≡ true
below_le Greater Greater le h = absurd (false≢true h)
below_le Greater b le h = absurd (omega arith)
below_le a b le h = refl

module _ {R : Type 0} (lot_of : R → List ℕ) where
  pub rise_rest : (n : ℕ) (rows : List R) → n ≤ length rows → Rise lot_of rows → Rise lot_of (drop n rows)
  rise_rest n rows low rise k d from within =
      let long = length-drop n rows in
      let next : n + (k + 1) ≡ n + k + 1 = omega arith in
      (λ i. is_lt (id_cmp (lot_of (get_or-drop n rows (k + 1) d i)) (lot_of (get_or-drop n rows k d i)))) ∙ ap (λ m. is_lt (id_cmp (lot_of (get_or rows m d)) (lot_of (get_or rows (n + k) d)))) next ∙ rise (n + k) d (omega arith) (omega (arith, within, long, low))

  pub rise_prefix : (n : ℕ) (rows : List R) → Rise lot_of rows → Rise lot_of (take n rows)
  rise_prefix n rows rise k d from within =
      let long = length-take n rows in
      (λ i. is_lt (id_cmp (lot_of (get_or-take n rows (k + 1) d (omega (arith, within, long)) i)) (lot_of (get_or-take n rows k d (omega (arith, within, long)) i)))) ∙ rise k d from (omega (arith, within, long))

module _ {R : Type 0} (lot_of : R → List ℕ) (lot : List ℕ) where
  abbrev by : R → Ordering
  by r = id_cmp (lot_of r) lot

  pub rises : (rows : List R) → Rise lot_of rows → IsNonDecreasingBy (λ r. ordering_index (by r)) rows
  rises rows rise = searchable_from_sorted nat_list_cmp_total lot_of rows lot rise

  pub parted_before : (rows : List R) → Rise lot_of rows → IsPartitionedBy (λ r. is_lt (by r)) rows
  parted_before rows rise i j d le lt h = below_lt _ _ (rises rows rise i j d le lt) h

  pub parted_up_to : (rows : List R) → Rise lot_of rows → IsPartitionedBy (λ r. is_le (by r)) rows
  parted_up_to rows rise i j d le lt h = below_le _ _ (rises rows rise i j d le lt) h

  pub is_of : (r : R) → same (lot_of r) lot ≡ is_eq (by r)
  is_of r = texts_ties (lot_of r) lot

  abbrev IsCountBefore : List R → ℕ → Type 0
  IsCountBefore rows n = IsPartitionPoint (λ r. is_lt (by r) ≡ true) (λ r. is_lt (by r) ≡ false) rows n

  abbrev IsCountUpTo : List R → ℕ → Type 0
  IsCountUpTo rows n = IsPartitionPoint (λ r. is_le (by r) ≡ true) (λ r. is_le (by r) ≡ false) rows n

  module _ (rows : List R) (from count : ℕ) (low : from ≤ length rows) (high : count ≤ length (drop from rows)) (before : IsCountBefore rows from) (up_to : IsCountUpTo (drop from rows) count) where
    abbrev rest : List R
    rest = drop from rows

    prefix_none : filter (λ r. same (lot_of r) lot) (take from rows) ≡ []
    prefix_none = none_pass (λ r. same (lot_of r) lot) (take from rows) (λ k d within.
        let long = length-take from rows in
        is_of (get_or (take from rows) k d) ∙ ap (λ r. is_eq (by r)) (get_or-take from rows k d (omega (arith, within, long))) ∙ lt_no (by (get_or rows k d)) (before.0 k d (omega arith) (omega (arith, within, long))))

    back_none : filter (λ r. same (lot_of r) lot) (drop count rest) ≡ []
    back_none = none_pass (λ r. same (lot_of r) lot) (drop count rest) (λ k d within.
        let long = length-drop count rest in
        is_of (get_or (drop count rest) k d) ∙ ap (λ r. is_eq (by r)) (get_or-drop count rest k d) ∙ le_no (by (get_or rest (count + k) d)) (up_to.1 (count + k) d (omega arith) (omega (arith, within, long, high))))

    part_each : filter (λ r. same (lot_of r) lot) (take count rest) ≡ take count rest
    part_each = each_pass (λ r. same (lot_of r) lot) (take count rest) (λ k d within.
        let long = length-take count rest in
        let longer = length-drop from rows in
        let inside : k < count = omega (arith, within, long) in
        let late : is_lt (by (get_or rest k d)) ≡ false = ap (λ r. is_lt (by r)) (get_or-drop from rows k d) ∙ before.1 (from + k) d (omega arith) (omega (arith, inside, high, longer, low)) in
        is_of (get_or (take count rest) k d) ∙ ap (λ r. is_eq (by r)) (get_or-take count rest k d inside) ∙ between_yes (by (get_or rest k d)) late (up_to.0 k d (omega arith) inside))

    pub part_is : take count rest ≡ rows_of lot_of lot rows
    part_is = sym (prefix_and_rest (λ r. same (lot_of r) lot) from rows ∙ (λ i. prefix_none i ++ filter (λ r. same (lot_of r) lot) rest) ∙ prefix_and_rest (λ r. same (lot_of r) lot) count rest ∙ (λ i. part_each i ++ back_none i) ∙ append-nil (take count rest))
