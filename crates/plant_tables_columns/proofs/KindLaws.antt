-- What one value was read from, and what is read of a value that obeys its rule.
use Rattle.std.proofs.Common.{◌≡◌, refl, sym, ap, ◌∙◌, subst, ℕ, zero, suc, ◌≤◌, ℤ, pos, negsuc, List, ◌∷◌, Bool, true, false, [], Option, Some, None, option_map, nat_le, arith, leb-true, if◌then◌else◌, unwrap_or}
use Rattle.std.proofs.lemmas.Bool.{and_parts}
use Rattle.std.proofs.lemmas.Bool.Decides.{nat_tests}
use Rattle.std.specs.Bool.{⊤}
use Rattle.std.specs.Char.{is_ascii}
use Rattle.std.specs.List.{list_all}
use Rattle.sqlite.specs.declared.types.Value.{Value}
use Rattle.sqlite.specs.declared.types.Value.TheVariants.{Null, Int, Text}
use Rattle.plant_base.specs.{only, is_id, is_text, is_unit, is_moment, greatest_moment, greatest_sublot, is_there, is_due}
use Rattle.sqlite_schema.specs.declared.schema.Column.{Column}
use Rattle.sql_tables.specs.{integer, text, integer_or_null, text_or_null, fits_columns}
use Rattle.plant_tables_columns.specs.{Kind, number, flag, null_or, ids, texts, units, dues, contents, numbers, line_numbers, always_one, flags, ids_or_none, sublot_numbers_or_none, moments_or_none, texts_or_none, text_in, integer_in, is_null, by_text, by_number, id_from, text_from, unit_from, due_from, content_in, content_from, is_in, number_in, number_from, line_number, line_number_from, flag_from, or_null, id_or_null, sublot_or_null, moment_or_null, readable_or_null}
use Rattle.plant_tables_columns.proofs.OptionalValues.{bound, mapped, some_same, only_back, only_again}

-- How a kind of value is stored in a column and read of it: it is stored as the column is declared; what was read is what
-- was stored, but for one that isn't whole; a valid one that is whole is read again; and each that was read is valid.
pub record IsKind {A : Type 0} (kind : Kind A) (valid whole : A → Type 0) : Type 0 where
  pub fits : (name : List ℕ) (a : A) → fits_columns (kind.declared name ∷ []) (kind.stored a ∷ []) ≡ true
  pub back : (v : Value) (a : A) → kind.read v ≡ Some a → whole a → v ≡ kind.stored a
  pub again : (a : A) → valid a → whole a → kind.read (kind.stored a) ≡ Some a
  pub keeps : (v : Value) (a : A) → kind.read v ≡ Some a → valid a

-- nothing more is asked
abbrev pub Any : {A : Type 0} → A → Type 0
Any a = ⊤

-- ---- texts

pub text_is : (v : Value) (bytes : List ℕ) → text_in v ≡ Some bytes → v ≡ Text bytes
text_is (Text other) bytes h = ap Text (some_same other bytes h)
text_is _ bytes h = absurd (cc)

pub text_kind : {A : Type 0} (read : List ℕ → Option A) (stored : A → List ℕ) (valid : A → Type 0)
    → ((bytes : List ℕ) (a : A) → read bytes ≡ Some a → bytes ≡ stored a)
    → ((a : A) → valid a → read (stored a) ≡ Some a)
    → ((bytes : List ℕ) (a : A) → read bytes ≡ Some a → valid a)
    → IsKind (record { declared = text; stored = λ a. Text (stored a); read = by_text read }) valid Any
text_kind read stored valid back again keeps = record {
  fits = λ name a. refl;
  back = λ v a h _. let p = bound (text_in v) read a h in text_is v p.0 p.1 ∙ ap Text (back p.0 a p.2);
  again = λ a is _. again a is;
  keeps = λ v a h. let p = bound (text_in v) read a h in keeps p.0 a p.2;
}

only_kind : (obeys : List ℕ → Bool) → IsKind (record { declared = text; stored = Text; read = by_text (only obeys) }) (λ a. obeys a ≡ true) Any
only_kind obeys = text_kind (only obeys) (λ a. a) (λ a. obeys a ≡ true) (λ bytes a h. (only_back obeys bytes a h).0) (only_again obeys) (λ bytes a h. (only_back obeys bytes a h).1)

pub id_kind : IsKind ids (λ a. is_id a ≡ true) Any
unfolding id_from
id_kind = only_kind is_id

pub text_like : IsKind texts (λ a. is_text a ≡ true) Any
unfolding text_from
text_like = only_kind is_text

pub unit_kind : IsKind units (λ a. is_unit a ≡ true) Any
unfolding unit_from
unit_kind = only_kind is_unit

pub due_kind : IsKind dues (λ a. is_due a ≡ true) Any
unfolding due_from
due_kind = only_kind is_due

-- what is read as a content is one of ASCII, and is what was stored where it isn't empty
content_read : (bytes c : List ℕ) → content_in bytes ≡ c → (list_all is_ascii c ≡ true) × (is_there c ≡ true → bytes ≡ c)
content_read bytes c h = elim (list_all is_ascii bytes) as (λ b. list_all is_ascii bytes ≡ b → (if b then bytes else []) ≡ c → (list_all is_ascii c ≡ true) × (is_there c ≡ true → bytes ≡ c)) [
  | true ↦ λ is e. (subst (λ x. list_all is_ascii x ≡ true) e is, λ there. e)
  | false ↦ λ is e. (subst (λ x. list_all is_ascii x ≡ true) e refl, λ there. absurd (let none : is_there [] ≡ true = subst (λ x. is_there x ≡ true) (sym e) there in cc))
] refl h

pub content_kind : IsKind contents (λ c. list_all is_ascii c ≡ true) (λ c. is_there c ≡ true)
unfolding content_from
content_kind = record {
  fits = λ name c. refl;
  back = λ v c h there. let p = bound (text_in v) (λ bytes. Some (content_in bytes)) c h in text_is v p.0 p.1 ∙ ap Text ((content_read p.0 c (some_same _ _ p.2)).1 there);
  again = λ c valid _. rw valid refl;
  keeps = λ v c h. let p = bound (text_in v) (λ bytes. Some (content_in bytes)) c h in (content_read p.0 c (some_same _ _ p.2)).0;
}

-- ---- numbers

pub integer_is : (v : Value) (n : ℤ) → integer_in v ≡ Some n → v ≡ Int n
integer_is (Int m) n h = ap Int (some_same m n h)
integer_is _ n h = absurd (cc)

pub integer_kind : {A : Type 0} (read : ℤ → Option A) (stored : A → ℤ) (valid whole : A → Type 0)
    → ((n : ℤ) (a : A) → read n ≡ Some a → whole a → n ≡ stored a)
    → ((a : A) → valid a → whole a → read (stored a) ≡ Some a)
    → ((n : ℤ) (a : A) → read n ≡ Some a → valid a)
    → IsKind (record { declared = integer; stored = λ a. Int (stored a); read = by_number read }) valid whole
integer_kind read stored valid whole back again keeps = record {
  fits = λ name a. refl;
  back = λ v a h is. let p = bound (integer_in v) read a h in integer_is v p.0 p.1 ∙ ap Int (back p.0 a p.2 is);
  again = again;
  keeps = λ v a h. let p = bound (integer_in v) read a h in keeps p.0 a p.2;
}

pub number_back : (low high : ℕ) (z : ℤ) (n : ℕ) → number_in low high z ≡ Some n → z ≡ pos n
unfolding number_in
number_back low high (pos m) n h = ap pos (only_back (is_in low high) m n h).0
number_back low high (negsuc m) n h = absurd (cc)

pub number_again : (low high n : ℕ) → is_in low high n ≡ true → number_in low high (pos n) ≡ Some n
unfolding number_in
number_again low high n valid = only_again (is_in low high) n valid

pub number_keeps : (low high : ℕ) (z : ℤ) (n : ℕ) → number_in low high z ≡ Some n → is_in low high n ≡ true
unfolding number_in
number_keeps low high (pos m) n h = (only_back (is_in low high) m n h).1
number_keeps low high (negsuc m) n h = absurd (cc)

-- every number is at least 0
up_to : (high n : ℕ) → nat_le n high ≡ true → is_in 0 high n ≡ true
up_to high n h =
    let least : nat_le 0 n ≡ true = grind (arith, nat_tests) in
    rw (least, h) refl

pub number_kind : (low high : ℕ) → IsKind (numbers low high) (λ n. is_in low high n ≡ true) Any
unfolding number_from
number_kind low high = integer_kind (number_in low high) pos (λ n. is_in low high n ≡ true) Any (λ z n h _. number_back low high z n h) (λ n valid _. number_again low high n valid) (number_keeps low high)

-- the same in the words of a greatest number
pub below_kind : (high : ℕ) → IsKind (numbers 0 high) (λ n. nat_le n high ≡ true) Any
below_kind high = record {
  fits = (number_kind 0 high).fits;
  back = (number_kind 0 high).back;
  again = λ n most _. (number_kind 0 high).again n (up_to high n most) tt;
  keeps = λ v n h. (and_parts (nat_le 0 n) (nat_le n high) ((number_kind 0 high).keeps v n h)).1;
}

-- the number 1
pub one_kind : IsKind always_one Any Any
one_kind = record {
  fits = λ name a. refl;
  back = λ v a h _.
      let p = mapped (λ n. tt) (number_from 1 1 v) a h in
      let parts = and_parts (nat_le 1 p.0) (nat_le p.0 1) ((number_kind 1 1).keeps v p.0 p.1) in
      let least : nat_le 1 p.0 ≡ true = parts.0 in
      let most : nat_le p.0 1 ≡ true = parts.1 in
      let same : p.0 ≡ 1 = grind (arith, nat_tests) in
      (number_kind 1 1).back v p.0 p.1 tt ∙ ap number same;
  again = λ a _ _. ap (option_map (λ n. tt)) ((number_kind 1 1).again 1 refl tt);
  keeps = λ v a h. tt;
}

-- the number of a line that can have it
abbrev pub IsNumbered : ℕ → Type 0
IsNumbered n = 1 ≤ n

-- what is read as the number of a line is one that a column holds, and is what was stored where a line can have it
numbered_read : (z : ℤ) (n : ℕ) → line_number z ≡ n → (n ≤ 65535) × (1 ≤ n → z ≡ pos n)
numbered_read z n h = go (number_in 1 65535 z) refl h
  where
    go : (o : Option ℕ) → number_in 1 65535 z ≡ o → unwrap_or o 0 ≡ n → (n ≤ 65535) × (1 ≤ n → z ≡ pos n)
    go None e f = let zero_is : 0 ≡ n = f in (omega arith, λ low. absurd (omega arith))
    go (Some m) e f =
        let most : m ≤ 65535 = leb-true m 65535 (and_parts (nat_le 1 m) (nat_le m 65535) (number_keeps 1 65535 z m e)).1 in
        (subst (λ k. k ≤ 65535) f most, λ low. number_back 1 65535 z m e ∙ ap pos f)

numbered_again : (n : ℕ) → n ≤ 65535 → 1 ≤ n → line_number (pos n) ≡ n
numbered_again n most least =
    let low : nat_le 1 n ≡ true = grind (arith, nat_tests) in
    let high : nat_le n 65535 ≡ true = grind (arith, nat_tests) in
    let valid : is_in 1 65535 n ≡ true = rw (low, high) refl in
    rw (number_again 1 65535 n valid) refl

pub line_number_kind : IsKind line_numbers (λ n. n ≤ 65535) IsNumbered
unfolding line_number_from
line_number_kind = integer_kind (λ n. Some (line_number n)) pos (λ n. n ≤ 65535) IsNumbered (λ z n h. (numbered_read z n (some_same _ _ h)).1) (λ n most least. ap Some (numbered_again n most least)) (λ z n h. (numbered_read z n (some_same _ _ h)).0)

flag_at : (k : ℕ) → is_in 0 1 k ≡ true → number k ≡ flag (nat_le 1 k)
flag_at zero h = refl
flag_at (suc zero) h = refl
flag_at (suc (suc k)) h = absurd (grind (arith, nat_tests, and_parts (nat_le 0 (suc (suc k))) (nat_le (suc (suc k)) 1) h))

flag_back : (v : Value) (b : Bool) → flag_from v ≡ Some b → v ≡ flag b
unfolding flag_from
flag_back v b h =
    let read = mapped (λ k. nat_le 1 k) (number_from 0 1 v) b h in
    (number_kind 0 1).back v read.0 read.1 tt ∙ flag_at read.0 ((number_kind 0 1).keeps v read.0 read.1) ∙ ap flag read.2

flag_again : (b : Bool) → flag_from (flag b) ≡ Some b
unfolding flag_from
flag_again true = ap (option_map (λ k. nat_le 1 k)) ((number_kind 0 1).again 1 refl tt)
flag_again false = ap (option_map (λ k. nat_le 1 k)) ((number_kind 0 1).again 0 refl tt)

flag_fits : (name : List ℕ) (b : Bool) → fits_columns (integer name ∷ []) (flag b ∷ []) ≡ true
flag_fits name true = refl
flag_fits name false = refl

pub flag_kind : IsKind flags Any Any
flag_kind = record { fits = flag_fits; back = λ v b h _. flag_back v b h; again = λ b _ _. flag_again b; keeps = λ v b h. tt }

-- ---- what may be left out

abbrev pub ValidOrNone : {A : Type 0} → (A → Type 0) → Option A → Type 0
ValidOrNone valid None = ⊤
ValidOrNone valid (Some a) = valid a

pub null_is : (v : Value) → is_null v ≡ true → v ≡ Null
null_is Null h = refl
null_is _ h = absurd (cc)

pub or_null_kind : {A : Type 0} (declared : List ℕ → Column) (kind : Kind A) (valid : A → Type 0) → IsKind kind valid Any
    → ((name : List ℕ) (o : Option A) → fits_columns (declared name ∷ []) (null_or kind.stored o ∷ []) ≡ true)
    → ((a : A) → is_null (kind.stored a) ≡ false)
    → IsKind (record { declared = declared; stored = null_or kind.stored; read = or_null kind.read }) (ValidOrNone valid) Any
or_null_kind {A} declared kind valid laws fit there = record { fits = fit; back = λ v o h _. back v o h; again = λ o is _. again o is; keeps = keeps }
  where
    back : (v : Value) (o : Option A) → or_null kind.read v ≡ Some o → v ≡ null_or kind.stored o
    back v o h = elim (is_null v) as (λ b. is_null v ≡ b → (if b then Some None else option_map Some (kind.read v)) ≡ Some o → v ≡ null_or kind.stored o) [
      | true ↦ λ e f. null_is v e ∙ ap (null_or kind.stored) (some_same None o f)
      | false ↦ λ e f. let p = mapped Some (kind.read v) o f in laws.back v p.0 p.1 tt ∙ ap (null_or kind.stored) p.2
    ] refl h

    again : (o : Option A) → ValidOrNone valid o → or_null kind.read (null_or kind.stored o) ≡ Some o
    again None is = refl
    again (Some a) is = rw (there a, laws.again a is tt) refl

    keeps : (v : Value) (o : Option A) → or_null kind.read v ≡ Some o → ValidOrNone valid o
    keeps v o h = elim (is_null v) as (λ b. (if b then Some None else option_map Some (kind.read v)) ≡ Some o → ValidOrNone valid o) [
      | true ↦ λ f. subst (ValidOrNone valid) (some_same None o f) tt
      | false ↦ λ f. let p = mapped Some (kind.read v) o f in subst (ValidOrNone valid) p.2 (laws.keeps v p.0 p.1)
    ] h

text_fits : (name : List ℕ) (o : Option (List ℕ)) → fits_columns (text_or_null name ∷ []) (null_or Text o ∷ []) ≡ true
text_fits name None = refl
text_fits name (Some bytes) = refl

pub optional_id_kind : IsKind ids_or_none (ValidOrNone (λ a. is_id a ≡ true)) Any
unfolding id_or_null
optional_id_kind = or_null_kind text_or_null ids (λ a. is_id a ≡ true) id_kind text_fits (λ a. refl)

number_fits : (name : List ℕ) (o : Option ℕ) → fits_columns (integer_or_null name ∷ []) (null_or number o ∷ []) ≡ true
number_fits name None = refl
number_fits name (Some n) = refl

pub optional_sublot_kind : IsKind sublot_numbers_or_none (ValidOrNone (λ n. nat_le n greatest_sublot ≡ true)) Any
unfolding sublot_or_null
optional_sublot_kind = or_null_kind integer_or_null (numbers 0 greatest_sublot) (λ n. nat_le n greatest_sublot ≡ true) (below_kind greatest_sublot) number_fits (λ a. refl)

pub optional_moment_kind : IsKind moments_or_none (ValidOrNone (λ n. is_moment n ≡ true)) Any
unfolding moment_or_null
optional_moment_kind = or_null_kind integer_or_null (numbers 0 greatest_moment) (λ n. is_moment n ≡ true) (below_kind greatest_moment) number_fits (λ a. refl)

pub optional_text_kind : IsKind texts_or_none (ValidOrNone (λ a. is_text a ≡ true)) Any
unfolding readable_or_null
optional_text_kind = or_null_kind text_or_null texts (λ a. is_text a ≡ true) text_like text_fits (λ a. refl)
