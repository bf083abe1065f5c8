-- What adjacent columns keep, from what each keeps.
use Rattle.std.proofs.Common.{◌≡◌, refl, sym, ap, ap₂, ◌∙◌, subst, ℕ, suc, ◌+◌, List, [], ◌∷◌, ◌++◌, length, ◌==◌, true, Some, option_map, eqb-true, eq-eqb, arith}
use Rattle.std.proofs.lemmas.Bool.{and_parts}
use Rattle.std.specs.Bool.{⊤}
use Rattle.sqlite.specs.declared.types.Value.{Value}
use Rattle.sqlite.specs.Order.{Row, column}
use Rattle.sqlite_schema.specs.declared.schema.Column.{Column}
use Rattle.sql_tables.specs.{fits_columns}
use Rattle.plant_tables_columns.specs.{Kind, one, ◌⊗◌, made, read_row}
use Rattle.plant_tables_columns.specs.Columns.{Columns}
use Rattle.plant_tables_columns.proofs.OptionalValues.{bound, mapped, some_same, where_true}
use Rattle.plant_tables_columns.proofs.KindLaws.{IsKind}

-- ---- values that a row has

-- the row has these values from this column on
abbrev pub StoredFrom : Row → ℕ → Row → Type 0
StoredFrom row at [] = ⊤
StoredFrom row at (v ∷ vs) = (column row at ≡ v) × StoredFrom row (suc at) vs

stand_join : (row : Row) (at : ℕ) (xs ys : Row) → StoredFrom row at xs → StoredFrom row (at + length xs) ys → StoredFrom row at (xs ++ ys)
stand_join row at [] ys a b = let same : at + 0 ≡ at = omega arith in subst (λ k. StoredFrom row k ys) same b
stand_join row at (x ∷ xs) ys a b = let same : at + suc (length xs) ≡ suc at + length xs = omega arith in (a.0, stand_join row (suc at) xs ys a.1 (subst (λ k. StoredFrom row k ys) same b))

stored_prefix : (row : Row) (at : ℕ) (xs ys : Row) → StoredFrom row at (xs ++ ys) → StoredFrom row at xs
stored_prefix row at [] ys h = tt
stored_prefix row at (x ∷ xs) ys h = (h.0, stored_prefix row (suc at) xs ys h.1)

stand_rest : (row : Row) (at : ℕ) (xs ys : Row) → StoredFrom row at (xs ++ ys) → StoredFrom row (at + length xs) ys
stand_rest row at [] ys h = let same : at ≡ at + 0 = omega arith in subst (λ k. StoredFrom row k ys) same h
stand_rest row at (x ∷ xs) ys h = let same : suc at + length xs ≡ at + suc (length xs) = omega arith in subst (λ k. StoredFrom row k ys) same (stand_rest row (suc at) xs ys h.1)

shifted : (r : Value) (row : Row) (at : ℕ) (vs : Row) → StoredFrom (r ∷ row) (suc at) vs → StoredFrom row at vs
shifted r row at [] h = tt
shifted r row at (v ∷ vs) h = (h.0, shifted r row (suc at) vs h.1)

behind : (r : Value) (row : Row) (at : ℕ) (vs : Row) → StoredFrom row at vs → StoredFrom (r ∷ row) (suc at) vs
behind r row at [] h = tt
behind r row at (v ∷ vs) h = (h.0, behind r row (suc at) vs h.1)

-- a row has its values
stand_itself : (row : Row) → StoredFrom row 0 row
stand_itself [] = tt
stand_itself (v ∷ vs) = (refl, behind v vs 0 vs (stand_itself vs))

-- and a row that has as many values as it is long is these
whole : (row values : Row) → length row ≡ length values → StoredFrom row 0 values → row ≡ values
whole [] [] long h = refl
whole [] (v ∷ vs) long h = absurd (cc)
whole (r ∷ row) [] long h = absurd (cc)
whole (r ∷ row) (v ∷ vs) long h = ap₂ (λ x xs. x ∷ xs) h.0 (whole row vs (omega (arith, long)) (shifted r row 0 vs h.1))

-- ---- what columns keep

-- How columns are stored and read: something is stored as they are declared; where something was read, the row has the
-- columns that it is stored as, but for what isn't whole; where a row has the columns of something valid and whole, it is read;
-- and all that was read is valid.
pub record AreLawful {A : Type 0} (c : Columns A) (valid whole : A → Type 0) : Type 0 where
  pub fits : (a : A) → fits_columns c.declared (c.stored a) ≡ true
  pub back : (row : Row) (at : ℕ) (a : A) → c.read row at ≡ Some a → whole a → StoredFrom row at (c.stored a)
  pub again : (row : Row) (at : ℕ) (a : A) → StoredFrom row at (c.stored a) → valid a → whole a → c.read row at ≡ Some a
  pub keeps : (row : Row) (at : ℕ) (a : A) → c.read row at ≡ Some a → valid a

-- what fits is as wide as what is declared
fitting_wide : (declared : List Column) (row : Row) → fits_columns declared row ≡ true → length row ≡ length declared
fitting_wide [] [] h = refl
fitting_wide [] (v ∷ vs) h = absurd (cc)
fitting_wide (c ∷ cs) [] h = absurd (cc)
fitting_wide (c ∷ cs) (v ∷ vs) h = ap suc (fitting_wide cs vs (and_parts _ (fits_columns cs vs) h).1)

pub wide : {A : Type 0} {c : Columns A} {valid whole : A → Type 0} → AreLawful c valid whole → (a : A) → length (c.stored a) ≡ length c.declared
wide {A} {c} laws a = fitting_wide c.declared (c.stored a) (laws.fits a)

-- columns side by side fit where each does
fits_foreign_tables : (declared more : List Column) (row rest : Row) → fits_columns declared row ≡ true → fits_columns more rest ≡ true → fits_columns (declared ++ more) (row ++ rest) ≡ true
fits_foreign_tables [] more [] rest h k = k
fits_foreign_tables [] more (v ∷ vs) rest h k = absurd (cc)
fits_foreign_tables (c ∷ cs) more [] rest h k = absurd (cc)
fits_foreign_tables (c ∷ cs) more (v ∷ vs) rest h k = let parts = and_parts _ (fits_columns cs vs) h in rw (parts.0, fits_foreign_tables cs more vs rest parts.1 k) refl

pub one_lawful : {A : Type 0} {name : List ℕ} {kind : Kind A} {valid whole : A → Type 0} → IsKind kind valid whole → AreLawful (one name kind) valid whole
one_lawful {A} {name} {kind} laws = record {
  fits = laws.fits name;
  back = λ row at a h is. (laws.back (column row at) a h is, tt);
  again = λ row at a h is all. ap kind.read h.0 ∙ laws.again a is all;
  keeps = λ row at a h. laws.keeps (column row at) a h;
}

infixr 11 ◌⊕◌
pub ◌⊕◌ : {A B : Type 0} {a : Columns A} {b : Columns B} {valid_a whole_a : A → Type 0} {valid_b whole_b : B → Type 0}
    → AreLawful a valid_a whole_a → AreLawful b valid_b whole_b
    → AreLawful (a ⊗ b) (λ p. valid_a p.0 × valid_b p.1) (λ p. whole_a p.0 × whole_b p.1)
◌⊕◌ {A} {B} {a} {b} {valid_a} {whole_a} {valid_b} {whole_b} left right = record {
  fits = λ p. fits_foreign_tables a.declared b.declared (a.stored p.0) (b.stored p.1) (left.fits p.0) (right.fits p.1);
  back = λ row at p h is.
      let x = bound (a.read row at) _ p h in
      let y = bound (b.read row (at + length a.declared)) _ p x.2 in
      let same : (x.0, y.0) ≡ p = some_same _ _ y.2 in
      subst (λ q. whole_a q.0 × whole_b q.1 → StoredFrom row at (a.stored q.0 ++ b.stored q.1)) same (λ all.
      stand_join row at (a.stored x.0) (b.stored y.0) (left.back row at x.0 x.1 all.0)
      (subst (λ n. StoredFrom row (at + n) (b.stored y.0)) (sym (wide left x.0)) (right.back row (at + length a.declared) y.0 y.1 all.1))) is;
  again = λ row at p h valid is.
      let first = left.again row at p.0 (stored_prefix row at (a.stored p.0) (b.stored p.1) h) valid.0 is.0 in
      let rest = subst (λ n. StoredFrom row (at + n) (b.stored p.1)) (wide left p.0) (stand_rest row at (a.stored p.0) (b.stored p.1) h) in
      let second = right.again row (at + length a.declared) p.1 rest valid.1 is.1 in
      rw (first, second) refl;
  keeps = λ row at p h.
      let x = bound (a.read row at) _ p h in
      let y = bound (b.read row (at + length a.declared)) _ p x.2 in
      let same : (x.0, y.0) ≡ p = some_same _ _ y.2 in
      subst (λ q. valid_a q.0 × valid_b q.1) same (left.keeps row at x.0 x.1, right.keeps row (at + length a.declared) y.0 y.1);
}

-- what is made of columns and taken apart again
pub made_lawful : {A B : Type 0} {c : Columns A} {valid whole : A → Type 0} (make : A → B) (parts : B → A)
    → ((b : B) → make (parts b) ≡ b) → ((a : A) → parts (make a) ≡ a)
    → AreLawful c valid whole → AreLawful (made make parts c) (λ b. valid (parts b)) (λ b. whole (parts b))
made_lawful {A} {B} {c} {valid} {whole} make parts made_again same_parts laws = record {
  fits = λ b. laws.fits (parts b);
  back = λ row at b h is.
      let p = mapped make (c.read row at) b h in
      let same : p.0 ≡ parts b = sym (same_parts p.0) ∙ ap parts p.2 in
      subst (λ a. whole a → StoredFrom row at (c.stored a)) same (laws.back row at p.0 p.1) is;
  again = λ row at b h is all. ap (option_map make) (laws.again row at (parts b) h is all) ∙ ap Some (made_again b);
  keeps = λ row at b h.
      let p = mapped make (c.read row at) b h in
      let same : p.0 ≡ parts b = sym (same_parts p.0) ∙ ap parts p.2 in
      subst valid same (laws.keeps row at p.0 p.1);
}

-- the same laws in other words
pub in_words : {A : Type 0} {c : Columns A} {valid whole : A → Type 0} (StateInvariant IsWhole : A → Type 0)
    → ((a : A) → valid a → StateInvariant a) → ((a : A) → StateInvariant a → valid a) → ((a : A) → IsWhole a → whole a)
    → AreLawful c valid whole → AreLawful c StateInvariant IsWhole
in_words StateInvariant IsWhole reported meant is_whole laws = record {
  fits = laws.fits;
  back = λ row at a h is. laws.back row at a h (is_whole a is);
  again = λ row at a h is all. laws.again row at a h (meant a is) (is_whole a all);
  keeps = λ row at a h. reported a (laws.keeps row at a h);
}

-- ---- whole rows

pub row_back : {A : Type 0} {c : Columns A} {valid all_there : A → Type 0} → AreLawful c valid all_there → (row : Row) (a : A) → read_row c row ≡ Some a → all_there a → row ≡ c.stored a
row_back {A} {c} laws row a h is =
    let p = where_true (length row == length c.declared) (c.read row 0) a h in
    whole row (c.stored a) (eqb-true (length row) (length c.declared) p.0 ∙ sym (wide laws a)) (laws.back row 0 a p.1 is)

pub row_again : {A : Type 0} {c : Columns A} {valid all_there : A → Type 0} → AreLawful c valid all_there → (a : A) → valid a → all_there a → read_row c (c.stored a) ≡ Some a
row_again {A} {c} laws a is all =
    let same_width : (length (c.stored a) == length c.declared) ≡ true = eq-eqb (length (c.stored a)) (length c.declared) (wide laws a) in
    rw same_width (laws.again (c.stored a) 0 a (stand_itself (c.stored a)) is all)

pub row_keeps : {A : Type 0} {c : Columns A} {valid all_there : A → Type 0} → AreLawful c valid all_there → (row : Row) (a : A) → read_row c row ≡ Some a → valid a
row_keeps {A} {c} laws row a h = let p = where_true (length row == length c.declared) (c.read row 0) a h in laws.keeps row 0 a p.1
