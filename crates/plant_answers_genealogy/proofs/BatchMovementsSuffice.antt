-- The movements of a batch, and the scraps of a lot, say of these what all movements do.
use Rattle.std.proofs.Common.{◌≡◌, ◌∙◌, ℕ, ◌+◌, ◌<◌, Bool, true, false, cond, if◌then◌else◌, List, [], ◌∷◌, ◌++◌, Option, Some, None, option_to_list, length, take, filter, get_or, sum_by, refl, sym, ap, arith, ◌&&◌, filter_map}
use Rattle.std.specs.List.{cons_option}
use Rattle.std.proofs.lemmas.List.{take_more}
use Rattle.std.proofs.lemmas.List.Elements.{filter_map-append}
use Rattle.std.proofs.lemmas.List.Sums.{sum_by-cons}
use Rattle.plant_base.specs.{State, same, Movement, MovementKind}
use Rattle.plant_base.specs.declared.rows.MovementKind.TheVariants.{Consumed, Produced}
use Rattle.plant_view.specs.{batch_by, is_named, is_scrap, movements_of, scraps_of}
use Rattle.plant_answers_genealogy.specs.{is_consumed_by, is_produced_by, consumption, production, booking_in, scrapped_of}

-- ---- rows of which nothing is reported

-- they may be left out
pub reported_of : {X Y : Type 0} (h : X → Option Y) (test : X → Bool) → ((x : X) → test x ≡ false → h x ≡ None) → (xs : List X) → filter_map h (filter test xs) ≡ filter_map h xs
reported_of h test none [] = refl
reported_of h test none (x ∷ xs) = elim (test x) as (λ b. test x ≡ b → filter_map h (cond b (x ∷ filter test xs) (filter test xs)) ≡ cons_option (h x) (filter_map h xs)) [
  | true ↦ λ e. ap (cons_option (h x)) (reported_of h test none xs)
  | false ↦ λ e. reported_of h test none xs ∙ ap (λ o. cons_option o (filter_map h xs)) (sym (none x e))
] refl

one_reported : {Y : Type 0} (o : Option Y) → option_to_list o ≡ cons_option o []
one_reported None = refl
one_reported (Some y) = refl

-- with one row more
pub reported_more : {X Y : Type 0} (h : X → Option Y) (xs : List X) (i : ℕ) (x : X) (ys : List Y) (o : Option Y) → i < length xs → x ≡ get_or xs i x → o ≡ h x → ys ≡ filter_map h (take i xs) → ys ++ option_to_list o ≡ filter_map h (take (i + 1) xs)
reported_more h xs i x ys o l at is e =
    let longer : take (i + 1) xs ≡ take i xs ++ x ∷ [] = take_more xs i x l ∙ ap (λ q. take i xs ++ q ∷ []) (sym at) in
    (λ j. e j ++ option_to_list (is j)) ∙ ap (λ zs. filter_map h (take i xs) ++ zs) (one_reported (h x)) ∙ sym (ap (filter_map h) longer ∙ filter_map-append h (take i xs) (x ∷ []))

-- ---- what a batch took and brought

not_consumed : (batch : List ℕ) (k : MovementKind) → is_named batch (batch_by k) ≡ false → is_consumed_by batch k ≡ false
not_consumed batch (Consumed by) e = e
not_consumed batch _ e = refl

not_produced : (batch : List ℕ) (k : MovementKind) → is_named batch (batch_by k) ≡ false → is_produced_by batch k ≡ false
not_produced batch (Produced by) e = e
not_produced batch _ e = refl

module _ (s : State) (batch : List ℕ) where
  pub consumed_all : filter_map (consumption s batch) (movements_of s batch) ≡ filter_map (consumption s batch) s.movements
  consumed_all = reported_of (consumption s batch) (λ m. is_named batch (batch_by m.kind)) (λ m e. ap (λ b. if b then booking_in s 0 m else None) (not_consumed batch m.kind e)) s.movements

  pub produced_all : filter_map (production s batch) (movements_of s batch) ≡ filter_map (production s batch) s.movements
  produced_all = reported_of (production s batch) (λ m. is_named batch (batch_by m.kind)) (λ m e. ap (λ b. if b then booking_in s (scrapped_of s.movements m.lot) m else None) (not_produced batch m.kind e)) s.movements

-- ---- what was scrapped of a lot

-- a sum of those that pass is one of all, where the others count nothing
pub sum_filtered : {X : Type 0} (f : X → ℕ) (test : X → Bool) (xs : List X) → sum_by f (filter test xs) ≡ sum_by (λ x. cond (test x) (f x) 0) xs
sum_filtered f test [] = refl
sum_filtered f test (x ∷ xs) = elim (test x) as (λ b. sum_by f (cond b (x ∷ filter test xs) (filter test xs)) ≡ cond b (f x) 0 + sum_by (λ y. cond (test y) (f y) 0) xs) [
  | true ↦ sum_by-cons f x (filter test xs) ∙ ap (λ n. f x + n) (sum_filtered f test xs)
  | false ↦ let rest = sum_filtered f test xs in omega (arith, rest)
] ∙ sym (sum_by-cons (λ y. cond (test y) (f y) 0) x xs)

pub scrapped_all : (s : State) (lot : List ℕ) → sum_by (λ m. m.amount) (scraps_of s lot) ≡ scrapped_of s.movements lot
unfolding scrapped_of
scrapped_all s lot = sum_filtered (λ (m : Movement). m.amount) (λ m. is_scrap m.kind && same m.lot lot) s.movements
