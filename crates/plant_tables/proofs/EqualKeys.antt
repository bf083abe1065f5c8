-- When two rows are equal in a key: where their order ties.
use Rattle.std.proofs.Common.{◌≡◌, inl, inr, ◌==◌, eqb-true, eq-eqb, refl, sym, ap, ◌∙◌, List, ℕ, pos, Bool, [], ◌∷◌, true, false, Some, ◌&&◌, ◌||◌, is_eq, nat_cmp, int_cmp, Ordering, Less, Equal, Greater}
use Rattle.std.specs.Ordering.{ordering_then}
use Rattle.std.specs.Cmp.{both_tied, unsigned_ties}
use Rattle.std.proofs.lemmas.Cmp.{int_eq_equiv}
use Rattle.std.proofs.lemmas.Map.Lookups.{exact_signed}
use Rattle.std.proofs.lemmas.Bool.{cases_Bool, false_from_ne_true}
use Rattle.sqlite_value.specs.declared.value.Value.TheVariants.{Text}
use Rattle.sqlite_value.specs.declared.keys.Collation.TheVariants.{Binary}
use Rattle.sqlite_value.specs.Order.{Row, value_cmp}
use Rattle.sqlite_value.specs.Keys.{first_key}
use Rattle.sqlite_value.proofs.OrderLemmas.{value_cmp-Text, value_cmp-Int}
use Rattle.sqlite_sql.specs.declared.ops.BinaryOp.TheVariants.{Compare}
use Rattle.sqlite_sql.specs.declared.ops.CompareOp.TheVariants.{Eq}
use Rattle.sqlite_sql.specs.Ops.{binary, is_true, from_truth}
use Rattle.plant_base.specs.{id_cmp, numbered_cmp}
use Rattle.sql_tables.specs.{same_key}
use Rattle.plant_tables_columns.specs.{number}

true_is : (b : Bool) → is_true (from_truth (Some b)) ≡ b
true_is true = refl
true_is false = refl

texts_ordered : (s t : List ℕ) → is_true (binary (Compare Eq Binary) (Text s) (Text t)) ≡ is_eq (value_cmp (Text s) (Text t))
unfolding value_cmp binary
texts_ordered s t = rw true_is refl

pub text_tie : (s t : List ℕ) → is_true (binary (Compare Eq Binary) (Text s) (Text t)) ≡ is_eq (id_cmp s t)
text_tie s t = texts_ordered s t ∙ ap is_eq (value_cmp-Text s t)

numbers_ordered : (m n : ℕ) → is_true (binary (Compare Eq Binary) (number m) (number n)) ≡ is_eq (value_cmp (number m) (number n))
unfolding binary
numbers_ordered m n = rw true_is refl

equal_order : (o : Ordering) → is_eq o ≡ true → o ≡ Equal
equal_order Less h = absurd cc
equal_order Equal h = refl
equal_order Greater h = absurd cc

natural : (m n : ℕ) → is_eq (int_cmp (pos m) (pos n)) ≡ is_eq (nat_cmp m n)
natural m n = elim (cases_Bool (m == n)) [
  | inl same ↦ let at : m ≡ n = eqb-true m n same in rw (sym (unsigned_ties m n), same, at) (int_eq_equiv.refl (pos n))
  | inr differ ↦ rw (sym (unsigned_ties m n), differ) (false_from_ne_true _ (λ yes.
      let both : pos m ≡ pos n = exact_signed (pos m) (pos n) (equal_order _ yes) in
      let one : m ≡ n = cc in
      absurd (let itself = eq-eqb m n one in cc)))
]

pub number_tie : (m n : ℕ) → is_true (binary (Compare Eq Binary) (number m) (number n)) ≡ is_eq (nat_cmp m n)
number_tie m n = numbers_ordered m n ∙ (ap is_eq (value_cmp-Int (pos m) (pos n)) ∙ natural m n)

pub and_true : (b : Bool) → (b && true) ≡ b
and_true true = refl
and_true false = refl

pub or_false : (b : Bool) → (b || false) ≡ b
or_false true = refl
or_false false = refl

and_turned : (a b c : Bool) → (a && (b && c)) ≡ ((a && b) && c)
and_turned true b c = refl
and_turned false b c = refl

pub one_text : (a b : List ℕ) (xs ys : Row) → same_key (1 ∷ []) (Text a ∷ xs) (Text b ∷ ys) ≡ is_eq (id_cmp a b)
unfolding first_key
one_text a b xs ys = rw (text_tie a b, and_true) refl

pub second_text : (a b : List ℕ) (x y : Row) (v w : List ℕ) → same_key (2 ∷ []) (Text v ∷ Text a ∷ x) (Text w ∷ Text b ∷ y) ≡ is_eq (id_cmp a b)
unfolding first_key
second_text a b x y v w = rw (text_tie a b, and_true) refl

pub two_texts : (a b c d : List ℕ) (xs ys : Row) → same_key (1 ∷ 2 ∷ []) (Text a ∷ Text c ∷ xs) (Text b ∷ Text d ∷ ys) ≡ is_eq (ordering_then (id_cmp a b) (id_cmp c d))
unfolding first_key
two_texts a b c d xs ys = rw (text_tie a b, text_tie c d, and_true) (both_tied _ _ (id_cmp a b) (id_cmp c d) refl refl)

pub text_number : (a b : List ℕ) (m n : ℕ) (xs ys : Row) → same_key (1 ∷ 2 ∷ []) (Text a ∷ number m ∷ xs) (Text b ∷ number n ∷ ys) ≡ is_eq (numbered_cmp a m b n)
unfolding first_key
text_number a b m n xs ys = rw (text_tie a b, number_tie m n, and_true) (both_tied _ _ (id_cmp a b) (nat_cmp m n) refl refl)

pub text_numbers : (a b : List ℕ) (m n j k : ℕ) (xs ys : Row)
    → same_key (1 ∷ 2 ∷ 3 ∷ []) (Text a ∷ number m ∷ number j ∷ xs) (Text b ∷ number n ∷ number k ∷ ys) ≡ is_eq (ordering_then (numbered_cmp a m b n) (nat_cmp j k))
unfolding first_key
text_numbers a b m n j k xs ys =
    rw (text_tie a b, number_tie m n, number_tie j k, and_true)
    (and_turned (is_eq (id_cmp a b)) (is_eq (nat_cmp m n)) (is_eq (nat_cmp j k)) ∙ both_tied _ _ (numbered_cmp a m b n) (nat_cmp j k) (both_tied _ _ (id_cmp a b) (nat_cmp m n) refl refl) refl)

pub one_number : (m n : ℕ) (xs ys : Row) → same_key (1 ∷ []) (number m ∷ xs) (number n ∷ ys) ≡ is_eq (nat_cmp m n)
unfolding first_key
one_number m n xs ys = rw (number_tie m n, and_true) refl

pub two_numbers : (m n j k : ℕ) (xs ys : Row) → same_key (1 ∷ 2 ∷ []) (number m ∷ number j ∷ xs) (number n ∷ number k ∷ ys) ≡ (is_eq (nat_cmp m n) && is_eq (nat_cmp j k))
unfolding first_key
two_numbers m n j k xs ys = rw (number_tie m n, number_tie j k, and_true) refl

abbrev numbered_pair : ℕ → List ℕ → List ℕ → Row
numbered_pair m a b = number m ∷ Text a ∷ Text b ∷ []

three_tied : (p q r : Ordering) → (is_eq p && (is_eq q && is_eq r)) ≡ is_eq (ordering_then p (ordering_then q r))
three_tied p q r = both_tied _ _ p (ordering_then q r) refl (both_tied _ _ q r refl refl)

pub number_texts : (m n : ℕ) (a b c d : List ℕ) → same_key (1 ∷ 2 ∷ 3 ∷ []) (numbered_pair m a c) (numbered_pair n b d) ≡ is_eq (ordering_then (nat_cmp m n) (ordering_then (id_cmp a b) (id_cmp c d)))
unfolding first_key
number_texts m n a b c d = rw (number_tie m n, text_tie a b, text_tie c d, and_true) (three_tied (nat_cmp m n) (id_cmp a b) (id_cmp c d))

pub text_number_text : (a b : List ℕ) (m n : ℕ) (c d : List ℕ) → same_key (1 ∷ 2 ∷ 3 ∷ []) (Text a ∷ number m ∷ Text c ∷ []) (Text b ∷ number n ∷ Text d ∷ []) ≡ is_eq (ordering_then (id_cmp a b) (ordering_then (nat_cmp m n) (id_cmp c d)))
unfolding first_key
text_number_text a b m n c d = rw (text_tie a b, number_tie m n, text_tie c d, and_true) (three_tied (id_cmp a b) (nat_cmp m n) (id_cmp c d))
