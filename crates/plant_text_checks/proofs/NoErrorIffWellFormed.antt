-- A command has no error exactly where it is well formed.
use Rattle.std.proofs.Common.{◌≡◌, ◌∙◌, ℕ, Bool, true, false, List, [], ◌∷◌, length, Option, Some, None, refl, ap, sym, subst, ◌↔◌, ◌&&◌, ◌||◌, not, nat_le, if◌then◌else◌, is_none}
use Rattle.std.specs.List.{list_any, list_all}
use Rattle.std.proofs.lemmas.Bool.{false≢true, and_from}
use Rattle.plant_base.specs.{is_well_formed_command, are_parts, are_apart, has_sublot, has_numbers, are_orders, is_version, is_same_sublot, Command, Header, OrderRow, Part, RecipeLine}
use Rattle.plant_base.specs.declared.commands.Command.TheVariants as body
use Rattle.plant_recipe.specs.{has_allowed_length, has_size_range, has_phase, has_product, has_no_repeats, all_fit, repeats, fits, is_well_formed}
use Rattle.plant_rules.specs.{is_well_formed_body}
use Rattle.plant_text_checks.specs.{index_of, one_more, pair_of, pair_with, unless, first_of, parts_again, lines_again, too_much, parts_error, orders_error, lines_error, amounts_error, recipe_error, command_error_of}
use Rattle.plant_text_checks.specs.declared.command_errors.CommandError.{CommandError}
use Rattle.plant_text_checks.specs.declared.command_errors.CommandError.TheVariants as command_error

some_none : {A : Type 0} {x : A} → Some x ≡ None → ⊥
some_none e = false≢true (ap is_none e)

and_split : (a b : Bool) → (a && b) ≡ true → (a ≡ true) × (b ≡ true)
and_split true b e = (refl, e)
and_split false b e = absurd (false≢true e)

-- ---- positions

fewer : (o : Option ℕ) → one_more o ≡ None → o ≡ None
fewer None e = refl
fewer (Some n) e = absurd (some_none e)

pub index_none : {A : Type 0} (p : A → Bool) (xs : List A) → (index_of p xs ≡ None) ↔ (list_any p xs ≡ false)
index_none p [] = (λ e. refl, λ e. refl)
index_none p (x ∷ xs) = elim (p x) as (λ b. ((if b then Some 0 else one_more (index_of p xs)) ≡ None) ↔ ((b || list_any p xs) ≡ false)) [
  | true ↦ (λ e. absurd (some_none e), λ e. absurd (false≢true (sym e)))
  | false ↦ (λ e. (index_none p xs).0 (fewer (index_of p xs) e), λ e. ap one_more ((index_none p xs).1 e))
]

any_not : {A : Type 0} (p : A → Bool) (xs : List A) → (list_any (λ x. not (p x)) xs ≡ false) ↔ (list_all p xs ≡ true)
any_not p [] = (λ e. refl, λ e. refl)
any_not p (x ∷ xs) = elim (p x) as (λ b. ((not b || list_any (λ y. not (p y)) xs) ≡ false) ↔ ((b && list_all p xs) ≡ true)) [
  | true ↦ any_not p xs
  | false ↦ (λ e. absurd (false≢true (sym e)), λ e. absurd (false≢true e))
]

pair_split : (o : Option ℕ) (later : Option (ℕ × ℕ)) → pair_with o later ≡ None → (o ≡ None) × (later ≡ None)
pair_split (Some n) later e = absurd (some_none e)
pair_split None (Some p) e = absurd (some_none e)
pair_split None None e = (refl, refl)

not_false : (b : Bool) → not b ≡ true → b ≡ false
not_false true e = sym e
not_false false e = refl

-- no item repeats another just where a test says so that looks after each of them
abbrev LooksBehind : {A : Type 0} → (A → A → Bool) → (List A → Bool) → Type 0
LooksBehind {A} again apart = (x : A) (xs : List A) → apart (x ∷ xs) ≡ (not (list_any (again x) xs) && apart xs)

pair_more : {A : Type 0} (again : A → A → Bool) (apart : List A → Bool) → LooksBehind again apart → (x : A) (xs : List A) → (pair_of again xs ≡ None) ↔ (apart xs ≡ true) → (pair_of again (x ∷ xs) ≡ None) ↔ (apart (x ∷ xs) ≡ true)
pair_more again apart more x xs rest = (there, back)
  where
    there : pair_of again (x ∷ xs) ≡ None → apart (x ∷ xs) ≡ true
    there e =
        let split = pair_split (index_of (again x) xs) (pair_of again xs) e in
        more x xs ∙ and_from _ _ (ap not ((index_none (again x) xs).0 split.0)) (rest.0 split.1)

    back : apart (x ∷ xs) ≡ true → pair_of again (x ∷ xs) ≡ None
    back e =
        let split = and_split (not (list_any (again x) xs)) (apart xs) (sym (more x xs) ∙ e) in
        ap (λ o. pair_with o (pair_of again xs)) ((index_none (again x) xs).1 (not_false _ split.0)) ∙ ap (λ o. pair_with None o) (rest.1 split.1)

pair_none : {A : Type 0} (again : A → A → Bool) (apart : List A → Bool) → apart [] ≡ true → LooksBehind again apart → (xs : List A) → (pair_of again xs ≡ None) ↔ (apart xs ≡ true)
pair_none again apart none more [] = (λ e. none, λ e. refl)
pair_none again apart none more (x ∷ xs) = pair_more again apart more x xs (pair_none again apart none more xs)

-- ---- the first that is wrong

unless_none : {A : Type 0} (b : Bool) (w : A) (o : Option A) → (unless b w o ≡ None) ↔ ((b ≡ true) × (o ≡ None))
unless_none true w o = (λ e. (refl, e), λ h. h.1)
unless_none false w o = (λ e. absurd (some_none e), λ h. absurd (false≢true h.0))

first_none : {A : Type 0} (o other : Option A) → (first_of o other ≡ None) ↔ ((o ≡ None) × (other ≡ None))
first_none None other = (λ e. (refl, e), λ h. h.1)
first_none (Some x) other = (λ e. absurd (some_none e), λ h. absurd (some_none h.0))

parts_none : (o : Option (ℕ × ℕ)) → (parts_again o ≡ None) ↔ (o ≡ None)
parts_none None = (λ e. refl, λ e. refl)
parts_none (Some p) = (λ e. absurd (some_none e), λ e. absurd (some_none e))

lines_none : (o : Option (ℕ × ℕ)) → (lines_again o ≡ None) ↔ (o ≡ None)
lines_none None = (λ e. refl, λ e. refl)
lines_none (Some p) = (λ e. absurd (some_none e), λ e. absurd (some_none e))

much_none : (o : Option ℕ) → (too_much o ≡ None) ↔ (o ≡ None)
much_none None = (λ e. refl, λ e. refl)
much_none (Some n) = (λ e. absurd (some_none e), λ e. absurd (some_none e))

-- ---- commands

merged : (ps : List Part) → are_parts ps ≡ true → parts_error ps ≡ None
merged ps e =
    let all = and_split (nat_le 1 (length ps) && nat_le (length ps) 16 && list_all has_sublot ps) (are_apart ps) e in
    let counted = and_split (nat_le 1 (length ps) && nat_le (length ps) 16) (list_all has_sublot ps) all.0 in
    let apart = (pair_none is_same_sublot are_apart refl (λ x xs. refl) ps).1 all.1 in
    (unless_none _ _ _).1 (counted.0, (parts_none _).1 apart)

imported : (orders : List OrderRow) → are_orders orders ≡ true → orders_error orders ≡ None
imported orders e = (unless_none _ _ _).1 ((and_split (nat_le (length orders) 1000) (list_all has_numbers orders) e).0, refl)

lines_fit : (product : List ℕ) (ls : List RecipeLine) → (lines_error product ls ≡ None) ↔ ((has_phase ls && has_product product ls && has_no_repeats ls) ≡ true)
lines_fit product ls = (there, back)
  where
    pairs : (pair_of repeats ls ≡ None) ↔ (has_no_repeats ls ≡ true)
    pairs = pair_none repeats has_no_repeats refl (λ x xs. refl) ls

    further : Option CommandError
    further = unless (has_product product ls) (command_error.NoProduct product) (lines_again (pair_of repeats ls))

    there : lines_error product ls ≡ None → (has_phase ls && has_product product ls && has_no_repeats ls) ≡ true
    there e =
        let phase = (unless_none (has_phase ls) command_error.NoPhase further).0 e in
        let out = (unless_none (has_product product ls) (command_error.NoProduct product) (lines_again (pair_of repeats ls))).0 phase.1 in
        and_from (has_phase ls && has_product product ls) (has_no_repeats ls) (and_from (has_phase ls) (has_product product ls) phase.0 out.0) (pairs.0 ((lines_none (pair_of repeats ls)).0 out.1))

    back : (has_phase ls && has_product product ls && has_no_repeats ls) ≡ true → lines_error product ls ≡ None
    back e =
        let all = and_split (has_phase ls && has_product product ls) (has_no_repeats ls) e in
        let both = and_split (has_phase ls) (has_product product ls) all.0 in
        let out = (unless_none (has_product product ls) (command_error.NoProduct product) (lines_again (pair_of repeats ls))).1 (both.1, (lines_none (pair_of repeats ls)).1 (pairs.1 all.1)) in
        (unless_none (has_phase ls) command_error.NoPhase further).1 (both.0, out)

amounts_fit : (h : Header) (ls : List RecipeLine) → (amounts_error h ls ≡ None) ↔ (all_fit h.base h.greatest ls ≡ true)
amounts_fit h ls = (λ e. (any_not (fits h.base h.greatest) ls).0 ((index_none _ ls).0 ((much_none _).0 e)), λ e. (much_none _).1 ((index_none _ ls).1 ((any_not (fits h.base h.greatest) ls).1 e)))

recipe_fits : (h : Header) (ls : List RecipeLine) → (recipe_error h ls ≡ None) ↔ (is_well_formed h ls ≡ true)
recipe_fits h ls = (there, back)
  where
    contents : Option CommandError
    contents = first_of (lines_error h.product ls) (amounts_error h ls)

    there : recipe_error h ls ≡ None → is_well_formed h ls ≡ true
    there e =
        let count = (unless_none (has_allowed_length ls) (command_error.Lines (length ls)) (unless (has_size_range h) command_error.Sizes contents)).0 e in
        let sizes = (unless_none (has_size_range h) command_error.Sizes contents).0 count.1 in
        let rest = (first_none (lines_error h.product ls) (amounts_error h ls)).0 sizes.1 in
        let all = and_split (has_phase ls && has_product h.product ls) (has_no_repeats ls) ((lines_fit h.product ls).0 rest.0) in
        let both = and_split (has_phase ls) (has_product h.product ls) all.0 in
        let counted = and_from (has_allowed_length ls) (has_size_range h) count.0 sizes.0 in
        let phased = and_from (has_allowed_length ls && has_size_range h) (has_phase ls) counted both.0 in
        let made = and_from (has_allowed_length ls && has_size_range h && has_phase ls) (has_product h.product ls) phased both.1 in
        let once = and_from (has_allowed_length ls && has_size_range h && has_phase ls && has_product h.product ls) (has_no_repeats ls) made all.1 in
        and_from (has_allowed_length ls && has_size_range h && has_phase ls && has_product h.product ls && has_no_repeats ls) (all_fit h.base h.greatest ls) once ((amounts_fit h ls).0 rest.1)

    back : is_well_formed h ls ≡ true → recipe_error h ls ≡ None
    back e =
        let fit = and_split (has_allowed_length ls && has_size_range h && has_phase ls && has_product h.product ls && has_no_repeats ls) (all_fit h.base h.greatest ls) e in
        let once = and_split (has_allowed_length ls && has_size_range h && has_phase ls && has_product h.product ls) (has_no_repeats ls) fit.0 in
        let out = and_split (has_allowed_length ls && has_size_range h && has_phase ls) (has_product h.product ls) once.0 in
        let phase = and_split (has_allowed_length ls && has_size_range h) (has_phase ls) out.0 in
        let count = and_split (has_allowed_length ls) (has_size_range h) phase.0 in
        let made = and_from (has_phase ls) (has_product h.product ls) phase.1 out.1 in
        let lines = (lines_fit h.product ls).1 (and_from (has_phase ls && has_product h.product ls) (has_no_repeats ls) made once.1) in
        let rest = (first_none (lines_error h.product ls) (amounts_error h ls)).1 (lines, (amounts_fit h ls).1 fit.1) in
        let sizes = (unless_none (has_size_range h) command_error.Sizes contents).1 (count.1, rest) in
        (unless_none (has_allowed_length ls) (command_error.Lines (length ls)) (unless (has_size_range h) command_error.Sizes contents)).1 (count.0, sizes)

-- a command of which nothing is looked at but whether it is formed
plain_fits : (b : Bool) → (unless b command_error.Number None ≡ None) ↔ ((b && true) ≡ true)
plain_fits true = (λ e. refl, λ e. refl)
plain_fits false = (λ e. absurd (some_none e), λ e. absurd (false≢true e))

-- a command whose list has nothing wrong where it is formed
listed_fits : (o : Option CommandError) (b : Bool) → (b ≡ true → o ≡ None) → (first_of o (unless b command_error.Number None) ≡ None) ↔ ((b && true) ≡ true)
listed_fits o b none = (λ e. (plain_fits b).0 ((first_none o _).0 e).1, λ e. (first_none o _).1 (none (and_split b true e).0, (plain_fits b).1 e))

versioned_fits : (o : Option CommandError) (b f : Bool) → (o ≡ None) ↔ (f ≡ true) → (first_of o (unless b command_error.Number None) ≡ None) ↔ ((b && f) ≡ true)
versioned_fits o b f iff = (there, back)
  where
    there : first_of o (unless b command_error.Number None) ≡ None → (b && f) ≡ true
    there e =
        let both = (first_none o _).0 e in
        and_from b f ((unless_none b _ _).0 both.1).0 (iff.0 both.0)

    back : (b && f) ≡ true → first_of o (unless b command_error.Number None) ≡ None
    back e =
        let both = and_split b f e in
        (first_none o _).1 (iff.1 both.1, (unless_none b _ _).1 (both.0, refl))

fits_where_well_formed : (c : Command) → (command_error_of c ≡ None) ↔ (is_well_formed_body c ≡ true)
fits_where_well_formed (body.Merge c) = listed_fits (parts_error c.parts) (are_parts c.parts) (merged c.parts)
fits_where_well_formed (body.ImportOrders c) = listed_fits (orders_error c.orders) (are_orders c.orders) (imported c.orders)
fits_where_well_formed (body.AddRecipe c) = versioned_fits (recipe_error c.header c.lines) (is_version c.header.version) (is_well_formed c.header c.lines) (recipe_fits c.header c.lines)
fits_where_well_formed c = plain_fits (is_well_formed_command c)

pub reported_unless_well_formed : (c : Command) (r : Option CommandError) → r ≡ command_error_of c → (r ≡ None) ↔ (is_well_formed_body c ≡ true)
reported_unless_well_formed c r is = subst (λ o. (o ≡ None) ↔ (is_well_formed_body c ≡ true)) (sym is) (fits_where_well_formed c)
