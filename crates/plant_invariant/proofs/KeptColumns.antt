-- The columns of the tables of a valid state.
use Rattle.std.proofs.Common.{◌≡◌, ◌∙◌, ℕ, ◌≤◌, Bool, true, false, List, [], ◌∷◌, Option, Some, None, is_some, refl, arith, ◌==◌, ◌&&◌, eqb-true}
use Rattle.std.specs.List.{AllByRecursion}
use Rattle.std.proofs.lemmas.Bool.{false≢true}
use Rattle.std.proofs.lemmas.Bool.Decides.{nat_tests}
use Rattle.plant_base.specs.{State, newest_schema, same, place_at, Batch, Movement, MovementKind, Place}
use Rattle.plant_base.specs.declared.rows.MovementKind.TheVariants as kind
use Rattle.plant_view.proofs.ListLemmas.{all_weaker, found_passes, found_keeps, same_key, key_itself, all_two, all_of, all_mapped}
use Rattle.plant_recipe.proofs.EventFold.{after_in_range}
use Rattle.plant_stock.specs.{goes_to, is_sublot_key, is_division, entries}
use Rattle.plant_view.specs.{IsThere, tables_of, phases_among, events_among, batch_row, sublot_row}
use Rattle.plant_invariant.specs.{IsDivision, IsBorn, HasProgressValues, BeginsAtZero, HasColumns}
use Rattle.plant_invariant.specs.StateInvariant.{StateInvariant}
use Rattle.plant_invariant.proofs.AppendKeepsOrder.{all_swap, all_passing}

-- each of the movements of a division is one
each_divides : (ms : List Movement) → IsDivision ms → AllByRecursion (λ m. is_division m.kind ≡ true) ms
each_divides [] d = tt
each_divides (m ∷ []) d = (d, tt)
each_divides (m ∷ n ∷ ms) d = absurd d

module _ (s : State) (valid : StateInvariant s) where
  -- a sublot that came to be
  abbrev Born : Type 0
  Born = (p : Place) × IsBorn s.movements p

  -- a movement of this kind would enter the sublot as a division, were it not sublot 0
  abbrev Divides : Born → Movement → Type 0
  Divides b m = is_sublot_key (goes_to m.kind m.lot m.sub) b.0.lot b.0.number ≡ true → 1 ≤ b.0.number → is_division m.kind ≡ true

  divides_at : (b : Born) (z : Bool) → (b.0.number == 0) ≡ z → AllByRecursion (Divides b) s.movements
  divides_at b true e = all_of (Divides b) (λ m enters above. let none : b.0.number ≡ 0 = eqb-true b.0.number 0 e in absurd (omega (arith, above, none))) s.movements
  divides_at b false e =
      let above : 1 ≤ b.0.number = grind (arith, nat_tests) in
      all_weaker _ (Divides b) (λ m d enters l. d enters) s.movements
      (all_passing (λ (m : Movement). is_division m.kind ≡ true) (λ (m : Movement). is_sublot_key (goes_to m.kind m.lot m.sub) b.0.lot b.0.number) s.movements
      (each_divides (entries s.movements b.0.lot b.0.number) (b.1.divided above)))

  entering_divides : AllByRecursion (λ m. (b : Born) → Divides b m) s.movements
  entering_divides = all_swap Divides s.movements (λ b. divides_at b (b.0.number == 0) refl)

  -- a sublot that is there, and that no movement but a division would enter were it not sublot 0
  begins_at : (lot : List ℕ) (sub : ℕ) → is_some (place_at s lot sub) ≡ true → ((b : Born) → (same lot b.0.lot && sub == b.0.number) ≡ true → 1 ≤ b.0.number → ⊥) → sub ≡ 0
  begins_at lot sub there none = by_place (place_at s lot sub) refl there
    where
      by_place : (o : Option Place) → place_at s lot sub ≡ o → is_some o ≡ true → sub ≡ 0
      by_place None e some = absurd (false≢true some)
      by_place (Some p) e some = by (sub == 0) refl
        where
          above : (sub == 0) ≡ false → 1 ≤ sub
          above other = grind (arith, nat_tests)

          by : (z : Bool) → (sub == 0) ≡ z → sub ≡ 0
          by true zero_is = eqb-true sub 0 zero_is
          by false other =
              let test = λ (q : Place). same q.lot lot && q.number == sub in
              let keys = same_key p.lot lot p.number sub (found_passes test s.places p e) in
              absurd (none (p, found_keeps (IsBorn s.movements) test s.places p valid.births.each e) ((λ i. same lot (keys.0 i) && sub == keys.1 i) ∙ key_itself lot sub) (omega (arith, above other, keys.1)))

  begins : (k : MovementKind) (lot : List ℕ) (sub : ℕ) → IsThere s (goes_to k lot sub) → ((b : Born) → is_sublot_key (goes_to k lot sub) b.0.lot b.0.number ≡ true → 1 ≤ b.0.number → is_division k ≡ true) → BeginsAtZero k sub
  begins kind.Received lot sub there divides = begins_at lot sub there (λ b e l. false≢true (divides b e l))
  begins (kind.Consumed batch) lot sub there divides = tt
  begins (kind.Produced batch) lot sub there divides = begins_at lot sub there (λ b e l. false≢true (divides b e l))
  begins kind.Scrapped lot sub there divides = tt
  begins (kind.Divided to) lot sub there divides = tt
  begins (kind.Split to) lot sub there divides = tt
  begins (kind.Merged to) lot sub there divides = tt

  progress_values : (b : Batch) → HasProgressValues (batch_row s.control_lines s.events b)
  progress_values b =
      let range = after_in_range (phases_among s.control_lines b.id) (events_among s.events b.id) in
      record {
        first_attempt = range.first_attempt;
        last_attempt = range.last_attempt;
        first_phase = range.first_phase;
        last_phase = omega (arith, range.last_phase);
      }

  pub columns : HasColumns (tables_of newest_schema s)
  columns = record {
    progress = all_mapped HasProgressValues (batch_row s.control_lines s.events) s.batches (all_of _ progress_values s.batches);
    stocks = all_mapped _ (sublot_row s.movements) s.places (all_of _ (λ (p : Place). omega (arith, valid.sound.stock.small p.lot p.number)) s.places);
    beginnings = all_two _ _ (λ (m : Movement). BeginsAtZero m.kind m.sub) (λ (m : Movement) named divides. begins m.kind m.lot m.sub named.0 divides) s.movements valid.sound.stock.named entering_divides;
  }
