-- Exact tests: such a test passes exactly where its fact holds.
use Rattle.std.proofs.Common.{◌≡◌, ◌∙◌, ℕ, ◌≤◌, ◌<◌, Bool, true, false, cond, List, [], ◌∷◌, ◌++◌, map, filter, find, is_some, nat_le, refl, sym, ap, ◌&&◌, ◌||◌, not, nat_lt, Decides, leb-true, le-leb, ltb-true, lt-ltb}
use Rattle.std.specs.List.{AllByRecursion, list_any, list_all}
use Rattle.std.proofs.lemmas.Bool.{false≢true, and_from}
use Rattle.std.proofs.lemmas.Bool.Decides.{Decides-and}
pub use Rattle.std.proofs.lemmas.Bool.Decides.{Decides-eqb as equal_exact}
use Rattle.plant_view.proofs.ListLemmas.{all_weaker, all_two, all_append, all_mapped, all_unmapped, all_filtered, filtered_passes, and_left, and_right, not_true, each_fails, any_map}
use Rattle.plant_requirements.proofs.KeyTests.{found_any}
use Rattle.plant_invariant.proofs.AppendKeepsOrder.{all_passing}

-- of the fact that it passes
pub passing : (b : Bool) → Decides b (b ≡ true)
passing b = ((λ e. e), (λ e. e))

pub le_exact : (a b : ℕ) → Decides (nat_le a b) (a ≤ b)
le_exact a b = (leb-true a b, le-leb a b)

pub lt_exact : (a b : ℕ) → Decides (nat_lt a b) (a < b)
lt_exact a b = (ltb-true a b, lt-ltb a b)

pub both : {x y : Bool} {P Q : Type 0} → Decides x P → Decides y Q → Decides (x && y) (P × Q)
both {x} {y} p q = Decides-and x y p q

-- a second test that is exact where the first fact holds
pub both_then : {x y : Bool} {P Q : Type 0} → Decides x P → (P → Decides y Q) → Decides (x && y) (P × Q)
both_then {x} {y} p q = ((λ e. let first = p.0 (and_left x y e) in (first, (q first).0 (and_right x y e))), (λ f. and_from x y (p.1 f.0) ((q f.0).1 f.1)))

-- one of two tests, as another says
pub chosen : {x y : Bool} {P Q : Type 0} (z : Bool) → Decides x P → Decides y Q → Decides (cond z x y) ((z ≡ true → P) × (z ≡ false → Q))
chosen true p q = ((λ e. ((λ t. p.0 e), (λ t. absurd (false≢true (sym t))))), (λ f. p.1 (f.0 refl)))
chosen false p q = ((λ e. ((λ t. absurd (false≢true t)), (λ t. q.0 e))), (λ f. q.1 (f.1 refl)))

-- the same fact in other words
pub in_words : {x : Bool} {P Q : Type 0} → Decides x P → (P → Q) → (Q → P) → Decides x Q
in_words d f g = ((λ e. f (d.0 e)), (λ q. d.1 (g q)))

-- and of a test that agrees
pub by_test : {x y : Bool} {P : Type 0} → x ≡ y → Decides y P → Decides x P
by_test e d = ((λ h. d.0 (sym e ∙ h)), (λ p. e ∙ d.1 p))

-- ---- over lists

pub all_apart : {X : Type 0} (P Q : X → Type 0) (xs : List X) → AllByRecursion (λ x. P x × Q x) xs → AllByRecursion P xs × AllByRecursion Q xs
all_apart P Q xs a = (all_weaker (λ x. P x × Q x) P (λ x p. p.0) xs a, all_weaker (λ x. P x × Q x) Q (λ x p. p.1) xs a)

pub all_joined : {X : Type 0} (P Q : X → Type 0) (xs : List X) → AllByRecursion P xs → AllByRecursion Q xs → AllByRecursion (λ x. P x × Q x) xs
all_joined P Q = all_two P Q (λ x. P x × Q x) (λ x a b. (a, b))

module _ {X : Type 0} (test : X → Bool) where
  -- each passes, in a list whose elements have what their tests need
  pub all_exact_where : (H P : X → Type 0) → ((x : X) → H x → Decides (test x) (P x)) → (xs : List X) → AllByRecursion H xs → Decides (list_all test xs) (AllByRecursion P xs)
  all_exact_where H P each [] h = ((λ e. tt), (λ a. refl))
  all_exact_where H P each (x ∷ xs) h = both (each x h.0) (all_exact_where H P each xs h.1)

  pub all_exact : (P : X → Type 0) → ((x : X) → Decides (test x) (P x)) → (xs : List X) → Decides (list_all test xs) (AllByRecursion P xs)
  all_exact P each [] = ((λ e. tt), (λ a. refl))
  all_exact P each (x ∷ xs) = both (each x) (all_exact P each xs)

  -- two facts of each
  pub all_two_exact : (P Q : X → Type 0) → ((x : X) → Decides (test x) (P x × Q x)) → (xs : List X) → Decides (list_all test xs) (AllByRecursion P xs × AllByRecursion Q xs)
  all_two_exact P Q each xs = in_words (all_exact (λ x. P x × Q x) each xs) (all_apart P Q xs) (λ p. all_joined P Q xs p.0 p.1)

  -- none passes
  pub none_exact : (xs : List X) → Decides (not (list_any test xs)) (AllByRecursion (λ x. test x ≡ false) xs)
  none_exact xs = ((λ e. each_fails test xs (not_true (list_any test xs) e)), (λ a. ap not (none_any xs a)))
    where
      none_any : (ys : List X) → AllByRecursion (λ y. test y ≡ false) ys → list_any test ys ≡ false
      none_any [] a = refl
      none_any (y ∷ ys) a = ap (λ b. b || list_any test ys) a.0 ∙ none_any ys a.1

  -- one is found
  pub any_exact : (xs : List X) → Decides (list_any test xs) (is_some (find test xs) ≡ true)
  any_exact xs = by_test (sym (found_any test xs)) (passing (is_some (find test xs)))

  module _ {W : Type 0} (f : W → X) where
    pub all_mapped_exact : (P : W → Type 0) → ((w : W) → Decides (test (f w)) (P w)) → (ws : List W) → Decides (list_all test (map f ws)) (AllByRecursion P ws)
    all_mapped_exact P each [] = ((λ e. tt), (λ a. refl))
    all_mapped_exact P each (w ∷ ws) = both (each w) (all_mapped_exact P each ws)

    -- one of those that were made of others is found
    pub any_mapped_exact : (ws : List W) → Decides (list_any (λ w. test (f w)) ws) (is_some (find test (map f ws)) ≡ true)
    any_mapped_exact ws = by_test (sym (any_map test f ws)) (any_exact (map f ws))

-- ---- facts of other lists

pub of_mapped : {X Y : Type 0} {b : Bool} (P : Y → Type 0) (f : X → Y) (xs : List X) → Decides b (AllByRecursion (λ x. P (f x)) xs) → Decides b (AllByRecursion P (map f xs))
of_mapped P f xs d = in_words d (all_mapped P f xs) (all_unmapped P f xs)

pub of_passing : {X : Type 0} {b : Bool} (P : X → Type 0) (p : X → Bool) (xs : List X) → Decides b (AllByRecursion P (filter p xs)) → Decides b (AllByRecursion (λ x. p x ≡ true → P x) xs)
of_passing P p xs d = in_words d (all_passing P p xs)
    (λ a. all_two (λ x. p x ≡ true → P x) (λ x. p x ≡ true) P (λ x f passes. f passes) (filter p xs) (all_filtered (λ x. p x ≡ true → P x) p xs a) (filtered_passes p xs))

-- what holds of all of two lists holds of all of each
pub all_parted : {X : Type 0} (P : X → Type 0) (xs ys : List X) → AllByRecursion P (xs ++ ys) → AllByRecursion P xs × AllByRecursion P ys
all_parted P [] ys a = (tt, a)
all_parted P (x ∷ xs) ys a = let rest = all_parted P xs ys a.1 in ((a.0, rest.0), rest.1)

pub of_both : {X : Type 0} {b : Bool} (P : X → Type 0) (xs ys : List X) → Decides b (AllByRecursion P xs × AllByRecursion P ys) → Decides b (AllByRecursion P (xs ++ ys))
of_both P xs ys d = in_words d (λ p. all_append P xs ys p.0 p.1) (all_parted P xs ys)
