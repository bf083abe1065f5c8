-- The order of the rows of each table by its key is that of their columns.
use Rattle.std.proofs.Common.{◌≡◌, refl, sym, ap, ◌∙◌, ℕ, pos, List, nat_cmp, int_cmp, Ordering, Less, Equal, Greater}
use Rattle.std.specs.Ordering.{ordering_then}
use Rattle.sqlite.specs.declared.types.Value.TheVariants.{Text}
use Rattle.plant_base.specs.{id_cmp, numbered_cmp}
use Rattle.plant_tables_columns.specs.{number}
use Rattle.sql_queries.specs.{value_order}
use Rattle.plant_tables.proofs.SortedRowsAreUnique.{int_cmp_pos}

then_equal : (o : Ordering) → ordering_then o Equal ≡ o
then_equal Less = refl
then_equal Equal = refl
then_equal Greater = refl

then_same : (a b c : Ordering) → ordering_then (ordering_then a b) c ≡ ordering_then a (ordering_then b c)
then_same Less b c = refl
then_same Equal b c = refl
then_same Greater b c = refl

-- the order of two numbers as columns
number_order : (m n : ℕ) → nat_cmp m n ≡ value_order (number m) (number n)
number_order m n = sym (then_equal (int_cmp (pos m) (pos n)) ∙ int_cmp_pos m n)

-- a key that ends with a number
last_number : (m n : ℕ) → nat_cmp m n ≡ ordering_then (value_order (number m) (number n)) Equal
last_number m n = number_order m n ∙ sym (then_equal (value_order (number m) (number n)))

-- ---- keys

pub by_text : (a b : List ℕ) → id_cmp a b ≡ ordering_then (value_order (Text a) (Text b)) Equal
by_text a b = sym (then_equal (id_cmp a b))

pub by_number : (m n : ℕ) → nat_cmp m n ≡ ordering_then (value_order (number m) (number n)) Equal
by_number m n = last_number m n

pub by_text_number : (a b : List ℕ) (m n : ℕ) → numbered_cmp a m b n ≡ ordering_then (value_order (Text a) (Text b)) (ordering_then (value_order (number m) (number n)) Equal)
by_text_number a b m n = ap (ordering_then (id_cmp a b)) (last_number m n)

pub by_two_texts : (a b c d : List ℕ) → ordering_then (id_cmp a b) (id_cmp c d) ≡ ordering_then (value_order (Text a) (Text b)) (ordering_then (value_order (Text c) (Text d)) Equal)
by_two_texts a b c d = ap (ordering_then (id_cmp a b)) (by_text c d)

pub by_two_numbers : (m n k l : ℕ) → ordering_then (nat_cmp m n) (nat_cmp k l) ≡ ordering_then (value_order (number m) (number n)) (ordering_then (value_order (number k) (number l)) Equal)
by_two_numbers m n k l = λ i. ordering_then (number_order m n i) (last_number k l i)

pub by_text_numbers : (a b : List ℕ) (m n k l : ℕ) → ordering_then (ordering_then (id_cmp a b) (nat_cmp m n)) (nat_cmp k l)
    ≡ ordering_then (value_order (Text a) (Text b)) (ordering_then (value_order (number m) (number n)) (ordering_then (value_order (number k) (number l)) Equal))
by_text_numbers a b m n k l = then_same (id_cmp a b) (nat_cmp m n) (nat_cmp k l) ∙ ap (ordering_then (id_cmp a b)) (by_two_numbers m n k l)

pub by_number_two_texts : (m n : ℕ) (a b c d : List ℕ) → ordering_then (nat_cmp m n) (ordering_then (id_cmp a b) (id_cmp c d))
    ≡ ordering_then (value_order (number m) (number n)) (ordering_then (value_order (Text a) (Text b)) (ordering_then (value_order (Text c) (Text d)) Equal))
by_number_two_texts m n a b c d = λ i. ordering_then (number_order m n i) (by_two_texts a b c d i)

pub by_text_number_text : (a b : List ℕ) (m n : ℕ) (c d : List ℕ) → ordering_then (id_cmp a b) (ordering_then (nat_cmp m n) (id_cmp c d))
    ≡ ordering_then (value_order (Text a) (Text b)) (ordering_then (value_order (number m) (number n)) (ordering_then (value_order (Text c) (Text d)) Equal))
by_text_number_text a b m n c d = ap (ordering_then (id_cmp a b)) (λ i. ordering_then (number_order m n i) (by_text c d i))
