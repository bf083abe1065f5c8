-- Lines of recipes.
use Rattle.std.proofs.Common.{◌≡◌, ◌∙◌, ℕ, ◌+◌, ◌*◌, ◌/◌, ◌<◌, ◌≤◌, Bool, true, false, cond, List, [], ◌∷◌, length, map, drop, get_or, Some, None, refl, ap, sym, subst, arith, div-mul-le_self, mul-le-mul_left, zero, suc, nat_le, ◌&&◌, ◌||◌, not, count_by, leb-true, le-leb}
use Rattle.std.proofs.Math.Nat.{div-zero}
use Rattle.std.specs.List.{list_any, list_all}
use Rattle.std.proofs.lemmas.Bool.{false≢true}
use Rattle.std.proofs.lemmas.Nat.{le-div, div-mul-add}
use Rattle.std.proofs.lemmas.List.{at_drop_more}
use Rattle.std.proofs.lemmas.List.Folds.{list_all_at}
use Rattle.std.proofs.lemmas.List.Sums.{sum_by-cons}
use Rattle.plant_base.specs.{greatest_amount, same, Header, RecipeLine}
use Rattle.plant_base.proofs.KeyOrders.{same_id}
use Rattle.plant_base.specs.declared.rows.RecipeLine.TheVariants.{In, Out, Parameter, Phase}
use Rattle.plant_recipe.specs.{scaled_of, RisesWithSize, KeepsAtBase, repeats, has_no_repeats, fits, all_fit, is_in_of, is_out_of, is_parameter_of, is_phase, has_allowed_length, has_size_range, has_phase, has_product, is_well_formed, phases_of, greatest_lines, OccursOnceIfWellFormed, HasPhasesIfWellFormed, is_size_of, line_scaled, scales_to_nothing, KeepsProcedure}

-- the line at a position repeats none of the later ones, and these repeat none among themselves
pub no_repeats_at : (lines : List RecipeLine) (i : ℕ) (d : RecipeLine) → i < length lines → has_no_repeats (drop i lines) ≡ (not (list_any (repeats (get_or lines i d)) (drop (i + 1) lines)) && has_no_repeats (drop (i + 1) lines))
no_repeats_at lines i d h = at_drop_more has_no_repeats lines i d h

-- a test that all items pass is passed at each position
pub passes_at : {X : Type 0} (p : X → Bool) (xs : List X) (i : ℕ) (d : X) → list_all p xs ≡ true → i < length xs → p (get_or xs i d) ≡ true
passes_at p xs i d all h = elim (p (get_or xs i d)) as (λ b. p (get_or xs i d) ≡ b → b ≡ true) [
  | true ↦ λ e. refl
  | false ↦ λ e. absurd (false≢true (sym (list_all_at p xs i d h e) ∙ all))
] refl

first_test : (a b : Bool) → (a && b) ≡ true → a ≡ true
first_test true b e = refl
first_test false b e = e

second_test : (a b : Bool) → (a && b) ≡ true → b ≡ true
second_test true b e = e
second_test false b e = absurd (false≢true e)

both_tests : (a b : Bool) → a ≡ true → b ≡ true → (a && b) ≡ true
both_tests a b e f = ap (λ x. x && b) e ∙ f

-- ---- scaling

div_rises : (m n k : ℕ) → m ≤ n → m / k ≤ n / k
div_rises m n zero h = omega (arith, div-zero m, div-zero n)
div_rises m n (suc k) h = le-div (m / suc k) n (suc k) (omega arith) (omega (arith, div-mul-le_self m (suc k)))

pub scaled_rises : RisesWithSize
scaled_rises amount low high base h = div_rises (2 * amount * low + base) (2 * amount * high + base) (2 * base) (omega (arith, mul-le-mul_left (2 * amount) h))

pub scaled_at_base : KeepsAtBase
scaled_at_base amount base h = ap (λ n. (n + base) / (2 * base)) (turned amount base) ∙ div-mul-add amount (2 * base) base (omega arith)
  where
    turned : (a b : ℕ) → 2 * a * b ≡ a * (2 * b)
    turned a b = omega arith

amount_below : (amount low high base : ℕ) → low ≤ high → nat_le (scaled_of amount high base) greatest_amount ≡ true → nat_le (scaled_of amount low base) greatest_amount ≡ true
amount_below amount low high base h e = le-leb _ _ (omega (arith, scaled_rises amount low high base h, leb-true (scaled_of amount high base) greatest_amount e))

-- what fits at a size fits at a lower one
fits_below : (base low high : ℕ) (line : RecipeLine) → low ≤ high → fits base high line ≡ true → fits base low line ≡ true
fits_below base low high (In def amount) h e = amount_below amount low high base h e
fits_below base low high (Out def amount) h e = amount_below amount low high base h e
fits_below base low high (Parameter name value) h e = refl
fits_below base low high (Phase unit_procedure operation phase) h e = refl

pub all_fit_below : (base low high : ℕ) (lines : List RecipeLine) → low ≤ high → all_fit base high lines ≡ true → all_fit base low lines ≡ true
all_fit_below base low high [] h e = refl
all_fit_below base low high (line ∷ lines) h e = both_tests (fits base low line) (all_fit base low lines) (fits_below base low high line h (first_test (fits base high line) (all_fit base high lines) e)) (all_fit_below base low high lines h (second_test (fits base high line) (all_fit base high lines) e))

-- a well-formed recipe fits at each of its sizes
pub control_fits : (header : Header) (lines : List RecipeLine) (size : ℕ) → is_well_formed header lines ≡ true → is_size_of header size ≡ true → all_fit header.base size lines ≡ true
control_fits header lines size formed sized = all_fit_below header.base size header.greatest lines (leb-true size header.greatest (second_test (nat_le header.least size) (nat_le size header.greatest) sized)) (second_test _ (all_fit header.base header.greatest lines) formed)

-- ---- repetitions

not_true : (a : Bool) → not a ≡ true → a ≡ false
not_true true e = sym e
not_true false e = refl

count_none : (p : RecipeLine → Bool) (line : RecipeLine) → ((other : RecipeLine) → repeats line other ≡ p other) → (lines : List RecipeLine) → list_any (repeats line) lines ≡ false → count_by p lines ≡ 0
count_none p line alike [] e = refl
count_none p line alike (x ∷ xs) e = counted (p x) refl (λ f. count_none p line alike xs f)
  where
    tests : (p x || list_any (repeats line) xs) ≡ false
    tests = ap (λ b. b || list_any (repeats line) xs) (sym (alike x)) ∙ e

    counted : (b : Bool) → p x ≡ b → (list_any (repeats line) xs ≡ false → count_by p xs ≡ 0) → count_by p (x ∷ xs) ≡ 0
    counted true f more = absurd (false≢true (sym (ap (λ b. b || list_any (repeats line) xs) (sym f) ∙ tests)))
    counted false f more = omega (arith, sum_by-cons (λ y. cond (p y) 1 0) x xs, ap {B = ℕ} (λ b. cond b 1 0) f, more (ap (λ b. b || list_any (repeats line) xs) (sym f) ∙ tests))

once_by : (p : RecipeLine → Bool) → ((line : RecipeLine) → p line ≡ true → (other : RecipeLine) → repeats line other ≡ p other) → (lines : List RecipeLine) → has_no_repeats lines ≡ true → count_by p lines ≤ 1
once_by p alike [] e = omega arith
once_by p alike (x ∷ xs) e = counted (p x) refl (λ f. once_by p alike xs f)
  where
    none_later : list_any (repeats x) xs ≡ false
    none_later = not_true (list_any (repeats x) xs) (first_test (not (list_any (repeats x) xs)) (has_no_repeats xs) e)

    later : has_no_repeats xs ≡ true
    later = second_test (not (list_any (repeats x) xs)) (has_no_repeats xs) e

    counted : (b : Bool) → p x ≡ b → (has_no_repeats xs ≡ true → count_by p xs ≤ 1) → count_by p (x ∷ xs) ≤ 1
    counted true f more = omega (arith, sum_by-cons (λ y. cond (p y) 1 0) x xs, ap {B = ℕ} (λ b. cond b 1 0) f, count_none p x (alike x f) xs none_later)
    counted false f more = omega (arith, sum_by-cons (λ y. cond (p y) 1 0) x xs, ap {B = ℕ} (λ b. cond b 1 0) f, more later)

in_alike : (def : List ℕ) (line : RecipeLine) → is_in_of def line ≡ true → (other : RecipeLine) → repeats line other ≡ is_in_of def other
in_alike def (In d a) e other = ap (λ x. is_in_of x other) (same_id d def e)
in_alike def (Out d a) e other = absurd (false≢true e)
in_alike def (Parameter n v) e other = absurd (false≢true e)
in_alike def (Phase u o p) e other = absurd (false≢true e)

out_alike : (def : List ℕ) (line : RecipeLine) → is_out_of def line ≡ true → (other : RecipeLine) → repeats line other ≡ is_out_of def other
out_alike def (Out d a) e other = ap (λ x. is_out_of x other) (same_id d def e)
out_alike def (In d a) e other = absurd (false≢true e)
out_alike def (Parameter n v) e other = absurd (false≢true e)
out_alike def (Phase u o p) e other = absurd (false≢true e)

parameter_alike : (name : List ℕ) (line : RecipeLine) → is_parameter_of name line ≡ true → (other : RecipeLine) → repeats line other ≡ is_parameter_of name other
parameter_alike name (Parameter n v) e other = ap (λ x. is_parameter_of x other) (same_id n name e)
parameter_alike name (In d a) e other = absurd (false≢true e)
parameter_alike name (Out d a) e other = absurd (false≢true e)
parameter_alike name (Phase u o p) e other = absurd (false≢true e)

pub occurs_once : OccursOnceIfWellFormed
occurs_once header lines formed =
    let apart = second_test _ (has_no_repeats lines) (first_test _ (all_fit header.base header.greatest lines) formed) in
    record {
      inputs = λ def. once_by (is_in_of def) (in_alike def) lines apart;
      outputs = λ def. once_by (is_out_of def) (out_alike def) lines apart;
      parameters = λ name. once_by (is_parameter_of name) (parameter_alike name) lines apart;
    }

-- ---- phases

count_some : (p : RecipeLine → Bool) (xs : List RecipeLine) → list_any p xs ≡ true → 1 ≤ count_by p xs
count_some p [] e = absurd (false≢true e)
count_some p (x ∷ xs) e = counted (p x) refl (λ f. count_some p xs f)
  where
    counted : (b : Bool) → p x ≡ b → (list_any p xs ≡ true → 1 ≤ count_by p xs) → 1 ≤ count_by p (x ∷ xs)
    counted true f more = omega (arith, sum_by-cons (λ y. cond (p y) 1 0) x xs, ap {B = ℕ} (λ b. cond b 1 0) f)
    counted false f more = omega (arith, sum_by-cons (λ y. cond (p y) 1 0) x xs, ap {B = ℕ} (λ b. cond b 1 0) f, more (sym (ap (λ b. b || list_any p xs) f) ∙ e))

-- no line is a phase and an output
one_kind : (product : List ℕ) (line : RecipeLine) → cond (is_phase line) 1 0 + cond (is_out_of product line) 1 0 ≤ 1
one_kind product (In def amount) = omega arith
one_kind product (Out def amount) = elim (same def product) as (λ b. 0 + cond b 1 0 ≤ 1) [ true ↦ omega arith | false ↦ omega arith ]
one_kind product (Parameter name value) = omega arith
one_kind product (Phase unit_procedure operation phase) = omega arith

two_kinds : (product : List ℕ) (lines : List RecipeLine) → count_by is_phase lines + count_by (is_out_of product) lines ≤ length lines
two_kinds product [] = omega arith
two_kinds product (x ∷ xs) = omega (arith, sum_by-cons (λ y. cond (is_phase y) 1 0) x xs, sum_by-cons (λ y. cond (is_out_of product y) 1 0) x xs, one_kind product x, two_kinds product xs)

pub has_phases : HasPhasesIfWellFormed
has_phases header lines formed =
    let apart = first_test _ (all_fit header.base header.greatest lines) formed in
    let outs = first_test _ (has_no_repeats lines) apart in
    let phases = first_test _ (has_product header.product lines) outs in
    let sizes = first_test _ (has_phase lines) phases in
    let counts = first_test (has_allowed_length lines) (has_size_range header) sizes in
    let short = leb-true (length lines) greatest_lines (second_test (nat_le 1 (length lines)) (nat_le (length lines) greatest_lines) counts) in
    let some_phase = count_some is_phase lines (second_test _ (has_phase lines) phases) in
    let some_out = count_some (is_out_of header.product) lines (second_test _ (has_product header.product lines) outs) in
    (some_phase, omega (arith, short, some_out, two_kinds header.product lines))

phase_kept : (base size : ℕ) (line : RecipeLine) → is_phase (line_scaled base size line) ≡ is_phase line
phase_kept base size (In def amount) = refl
phase_kept base size (Out def amount) = refl
phase_kept base size (Parameter name value) = refl
phase_kept base size (Phase unit_procedure operation phase) = refl

phases_kept : (base size : ℕ) (lines : List RecipeLine) → (length (map (line_scaled base size) lines) ≡ length lines) × (phases_of (map (line_scaled base size) lines) ≡ phases_of lines)
phases_kept base size [] = (refl, refl)
phases_kept base size (x ∷ xs) =
    let rest = phases_kept base size xs in
    (omega (arith, rest.0), omega (arith, rest.1, sum_by-cons (λ y. cond (is_phase y) 1 0) x xs, sum_by-cons (λ y. cond (is_phase y) 1 0) (line_scaled base size x) (map (line_scaled base size) xs), ap {B = ℕ} (λ b. cond b 1 0) (phase_kept base size x)))

chosen : {X : Type 0} (b : Bool) (x y : X) → cond b None (Some x) ≡ Some y → x ≡ y
chosen true x y e = cc
chosen false x y e = cc

pub keeps_procedure : KeepsProcedure
keeps_procedure header lines control size e = subst (λ (ls : List RecipeLine). (length ls ≡ length lines) × (phases_of ls ≡ phases_of lines)) (chosen (list_any (scales_to_nothing header.base size) lines) (map (line_scaled header.base size) lines) control e) (phases_kept header.base size lines)
