-- The comparison of columns with parameters, as a test of the row.
use Rattle.std.proofs.Common.{◌≡◌, ◌∙◌, ℕ, pos, Bool, true, false, ◌&&◌, ◌==◌, List, [], ◌∷◌, Option, Some, None, refl, sym, ap, ap₂, is_eq}
use Rattle.std.specs.Cmp.{unsigned_ties}
use Rattle.std.specs.Cmp.Lexicographic.{texts_ties}
use Rattle.sqlite_value.specs.declared.value.Value.TheVariants.{Text}
use Rattle.sqlite_value.specs.Order.{value_cmp}
use Rattle.sqlite_value.proofs.OrderLemmas.{value_cmp-Text, value_cmp-Int}
use Rattle.plant_base.specs.{same, Movement, MovementKind}
use Rattle.plant_base.specs.declared.rows.MovementKind.TheVariants as kind
use Rattle.plant_view.specs.{batch_by, is_named, is_scrap}
use Rattle.plant_questions.specs.{other_lot}
use Rattle.sql_queries.specs.{has_values}
use Rattle.plant_tables_columns.specs.{other_lot as column_lot, number, null_or, row_of_movement}
use Rattle.plant_tables.proofs.EqualKeys.{and_true}
use Rattle.plant_tables.proofs.SortedRowsAreUnique.{int_cmp_pos}
use Rattle.std.proofs.Math.Bool.{and-true, and_comm}

pub text_is : (a b : List ℕ) → is_eq (value_cmp (Text a) (Text b)) ≡ same a b
text_is a b = ap is_eq (value_cmp-Text a b) ∙ sym (texts_ties a b)

pub number_is : (m n : ℕ) → is_eq (value_cmp (number m) (number n)) ≡ (m == n)
number_is m n = ap is_eq (value_cmp-Int (pos m) (pos n) ∙ int_cmp_pos m n) ∙ sym (unsigned_ties m n)

-- one text
pub one_text : (a b : List ℕ) → (is_eq (value_cmp (Text a) (Text b)) && true) ≡ same a b
one_text a b = and_true _ ∙ text_is a b

-- a text, and then a number
pub text_number : (a b : List ℕ) (m n : ℕ) → (is_eq (value_cmp (Text a) (Text b)) && (is_eq (value_cmp (number m) (number n)) && true)) ≡ (same a b && m == n)
text_number a b m n = ap₂ (λ x y. x && y) (text_is a b) (and_true _ ∙ number_is m n)

-- a number, and then a text
pub number_text : (m n : ℕ) (a b : List ℕ) → (is_eq (value_cmp (number m) (number n)) && (is_eq (value_cmp (Text a) (Text b)) && true)) ≡ (m == n && same a b)
number_text m n a b = ap₂ (λ x y. x && y) (number_is m n) (one_text a b)

-- two texts
pub two_texts : (a b c d : List ℕ) → (is_eq (value_cmp (Text a) (Text b)) && (is_eq (value_cmp (Text c) (Text d)) && true)) ≡ (same a b && same c d)
two_texts a b c d = ap₂ (λ x y. x && y) (text_is a b) (one_text c d)

-- ---- movements

-- what a column that may be NULL names
pub named_is : (name : List ℕ) (o : Option (List ℕ)) → is_eq (value_cmp (null_or Text o) (Text name)) ≡ is_named name o
unfolding value_cmp
named_is name None = refl
named_is name (Some id) = text_is id name

pub batch_is : (m : Movement) (batch : List ℕ) → has_values (8 ∷ []) (Text batch ∷ []) (row_of_movement m) ≡ is_named batch (batch_by m.kind)
batch_is m batch = and_true _ ∙ named_is batch (batch_by m.kind)

-- the other lot of a movement is the one in its column
same_other : (k : MovementKind) (lot : List ℕ) → column_lot k lot ≡ other_lot k lot
same_other kind.Received lot = refl
same_other _ lot = refl

-- a movement that brings something to the lot from another sublot
pub into_is : (m : Movement) (lot : List ℕ) → has_values (6 ∷ []) (Text lot ∷ []) (row_of_movement m) ≡ is_named lot (other_lot m.kind m.lot)
into_is m lot = and_true _ ∙ named_is lot (column_lot m.kind m.lot) ∙ ap (is_named lot) (same_other m.kind m.lot)

-- a movement whose own lot it is
pub own_is : (m : Movement) (lot : List ℕ) → has_values (4 ∷ []) (Text lot ∷ []) (row_of_movement m) ≡ same m.lot lot
own_is m lot = one_text m.lot lot

-- a movement of a lot that scraps
pub scrap_is : (m : Movement) (lot : List ℕ) → has_values (4 ∷ 3 ∷ []) (Text lot ∷ number 4 ∷ []) (row_of_movement m) ≡ (is_scrap m.kind && same m.lot lot)
scrap_is m lot = by m.kind
  where
    kind_is : (k : ℕ) (b : Bool) → (k == 4) ≡ b → (is_eq (value_cmp (Text m.lot) (Text lot)) && (is_eq (value_cmp (number k) (number 4)) && true)) ≡ (b && same m.lot lot)
    kind_is k b is = ap₂ (λ x y. x && (y && true)) (text_is m.lot lot) (number_is k 4 ∙ is) ∙ (ap (λ x. same m.lot lot && x) (and-true b) ∙ and_comm (same m.lot lot) b)

    by : (k : MovementKind) → has_values (4 ∷ 3 ∷ []) (Text lot ∷ number 4 ∷ []) (row_of_movement (record m { kind = k })) ≡ (is_scrap k && same m.lot lot)
    by kind.Received = kind_is 1 false refl
    by (kind.Consumed batch) = kind_is 2 false refl
    by (kind.Produced batch) = kind_is 3 false refl
    by kind.Scrapped = kind_is 4 true refl
    by (kind.Divided to) = kind_is 5 false refl
    by (kind.Split to) = kind_is 6 false refl
    by (kind.Merged to) = kind_is 7 false refl
