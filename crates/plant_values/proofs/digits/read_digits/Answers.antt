use Rattle.std.proofs.Common.{◌≡◌, ℕ, ◌+◌, ◌*◌, ◌≤◌, ◌<◌, ◌^◌, true, get_or, arith, rules, lit<, refl, pow-suc, add-one}
use Rattle.std.proofs.Math.Nat.{pow-le-pow_right}
use Rattle.std.proofs.lemmas.List.Folds.{list_all_more}
use Rattle.std.proofs.lemmas.Int.Digits.{digits_value_more}
use Rattle.std.proofs.lemmas.Str.{digit_value_digit}
use Rattle.std.proofs.lemmas.Bool.Decides.{nat_tests}
use Rattle.std.specs.Char.{is_ascii_digit}
use Rattle.std.specs.Int.{IsInRange}
use Rattle.plant_values.proofs.digits.read_digits.Goals as goal

-- a number below 10 ^ i, i below 18, has room for one more digit
room : (i n d : ℕ) → i ≤ 17 → n < 10 ^ i → d ≤ 9 → n * 10 + d < 10 ^ 18
room i n d below small digit =
    let top : 10 ^ i ≤ 10 ^ 17 = pow-le-pow_right (lit< tt) below in
    omega (arith, top)

next : (i n d : ℕ) → n < 10 ^ i → d ≤ 9 → n * 10 + d < 10 ^ (i + 1)
next i n d small digit = rw (add-one, pow-suc) (omega (arith, small))

digit_range : (c : ℕ) → is_ascii_digit c ≡ true → IsInRange 48 57 c
digit_range c h = grind (arith, nat_tests)

pub overflow_mul-number : goal.overflow_mul-number
overflow_mul-number c = omega (arith, room c.loop-digit.digit-index c.loop-digit.number 0 (omega arith) c.loop-digit.invariant.small (omega arith))

pub overflow_add-number : goal.overflow_add-number
overflow_add-number c =
    let d = digit_range (get_or c.args.text.now c.loop-digit.digit-index 0) (search rules) in
    omega (arith, room c.loop-digit.digit-index c.loop-digit.number c.from.result (omega arith) c.loop-digit.invariant.small (omega (arith, d.0, d.1)))

pub loop-digit-preserved : goal.loop-digit-preserved
loop-digit-preserved c =
    let x = get_or c.args.text.now c.loop-digit.digit-index 0 in
    let is : is_ascii_digit x ≡ true = search rules in
    let d = digit_range x is in
    let v = digit_value_digit x d in
    record {
      digits = rw (list_all_more is_ascii_digit c.args.text.now c.loop-digit.digit-index 0 c.loop-digit-test.true, c.loop-digit.invariant.digits, is) refl;
      value = rw (digits_value_more 10 c.args.text.now c.loop-digit.digit-index c.loop-digit-test.true, ← c.loop-digit.invariant.value) (omega (arith, v, d.0, d.1));
      small = next c.loop-digit.digit-index c.loop-digit.number c.from.result c.loop-digit.invariant.small (omega (arith, d.0, d.1));
    }
