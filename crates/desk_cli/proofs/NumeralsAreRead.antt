-- Numbers in arguments, as std reads them.
use Rattle.std.proofs.Common.{◌≡◌, ◌<◌, ◌≤◌, ◌^◌, ℕ, Bool, true, false, List, length, Some, None, nat_le, ◌&&◌, if◌then◌else◌, ap, ◌∙◌, refl, rules, arith, IfSome}
use Rattle.std.specs.Str.Parse.{IsNumeral, digits_value, without_leading_plus}
use Rattle.std.proofs.lemmas.Str.Parse.{numerals_by_value, tells_all_ascii_digits}
use Rattle.plant_base.specs.{only}
use Rattle.desk_cli.specs.{is_numeral, number_in}

both : (a b : Bool) → (a && b) ≡ true → (a ≡ true) × (b ≡ true)
both true b e = (refl, e)
both false b e = cc e

-- a numeral passes the test
pub reported_numeral : (text : List ℕ) → IsNumeral 10 text → is_numeral text ≡ true
reported_numeral text h =
    let some : nat_le 1 (length text) ≡ true = search (rules, h.0) in
    let digits = (numerals_by_value _ tells_all_ascii_digits).from text h.1 in
    search (rules, some, digits)

-- and what passes it is one
pub reported_by : (text : List ℕ) → is_numeral text ≡ true → IsNumeral 10 text
reported_by text h =
    let parts = both (nat_le 1 (length text)) _ h in
    (some_of (length text) parts.0, (numerals_by_value _ tells_all_ascii_digits).to text parts.1)
  where
    some_of : (n : ℕ) → nat_le 1 n ≡ true → 0 < n
    some_of n e = search (rules, e)

-- a number that was read
pub number_read : (least greatest n : ℕ) (text : List ℕ) → IsNumeral 10 (without_leading_plus text)
    → n ≡ digits_value 10 (without_leading_plus text) → least ≤ n → n ≤ greatest → Some n ≡ number_in least greatest text
unfolding number_in
number_read least greatest n text numeral is low high =
    let reported = reported_numeral (without_leading_plus text) numeral in
    search (rules, reported, is, low, high)

off : (a : Bool) → (a && false) ≡ false
off true = refl
off false = refl

above : (least greatest n : ℕ) → nat_le n greatest ≡ false → None ≡ only (λ k. nat_le least k && nat_le k greatest) n
above least greatest n e = let out : (nat_le least n && nat_le n greatest) ≡ false = ap (λ b. nat_le least n && b) e ∙ off (nat_le least n) in rw out refl

-- a text that no number was read from
pub number_unread : (least greatest : ℕ) (text : List ℕ) → greatest < 2 ^ 64
    → ((IsNumeral 10 (without_leading_plus text) × (digits_value 10 (without_leading_plus text) < 2 ^ 64)) → ⊥)
    → None ≡ number_in least greatest text
unfolding number_in
number_unread least greatest text room none = by_test (is_numeral (without_leading_plus text)) refl
  where
    by_range : (c : Bool) → IsNumeral 10 (without_leading_plus text) → nat_le (digits_value 10 (without_leading_plus text)) greatest ≡ c
        → None ≡ only (λ k. nat_le least k && nat_le k greatest) (digits_value 10 (without_leading_plus text))
    by_range false numeral e = above least greatest (digits_value 10 (without_leading_plus text)) e
    by_range true numeral e =
        let low : digits_value 10 (without_leading_plus text) ≤ greatest = search (rules, e) in
        absurd (none (numeral, omega (arith, low, room)))

    by_test : (b : Bool) → is_numeral (without_leading_plus text) ≡ b → None ≡ (if b then only (λ k. nat_le least k && nat_le k greatest) (digits_value 10 (without_leading_plus text)) else None)
    by_test false e = refl
    by_test true e = by_range (nat_le (digits_value 10 (without_leading_plus text)) greatest) (reported_by (without_leading_plus text) e) refl

only_bounded : (least greatest n : ℕ) → IfSome (only (λ k. nat_le least k && nat_le k greatest) n) (λ k. k ≤ greatest)
only_bounded least greatest n = by_range (nat_le least n && nat_le n greatest) refl
  where
    by_range : (c : Bool) → (nat_le least n && nat_le n greatest) ≡ c → IfSome (if c then Some n else None) (λ k. k ≤ greatest)
    by_range false e = tt
    by_range true e = let high = (both (nat_le least n) (nat_le n greatest) e).1 in search (rules, high)

pub number_bounded : (least greatest : ℕ) (text : List ℕ) → IfSome (number_in least greatest text) (λ k. k ≤ greatest)
unfolding number_in
number_bounded least greatest text = by_test (is_numeral (without_leading_plus text))
  where
    by_test : (b : Bool) → IfSome (if b then only (λ k. nat_le least k && nat_le k greatest) (digits_value 10 (without_leading_plus text)) else None) (λ k. k ≤ greatest)
    by_test false = tt
    by_test true = only_bounded least greatest (digits_value 10 (without_leading_plus text))
