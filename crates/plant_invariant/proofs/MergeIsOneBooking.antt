-- The lines of a merge are one booking, which makes its lot.
use Rattle.std.proofs.Common.{◌≡◌, ℕ, ◌+◌, ◌≤◌, true, false, List, [], ◌∷◌, length, map, is_some, refl, arith}
use Rattle.std.specs.List.{AllByRecursion}
use Rattle.plant_base.specs.{is_id, HasPartValues, State, put, lot_order, place_at, Lot, Movement, Part, Stamp}
use Rattle.plant_base.specs.declared.rows.MovementKind.TheVariants.{Merged}
use Rattle.plant_view.proofs.ListLemmas.{same_itself, all_two}
use Rattle.plant_stock.specs.{comes_from, are_one_merge, is_one_source, greatest_parts}
use Rattle.plant_view.specs.{IsThere}
use Rattle.plant_rules.specs.{part_line, part_lines}
use Rattle.plant_rules.proofs.MergePreservesInvariant.{all_lines}
use Rattle.plant_rules.proofs.MergeParts.{Apart, AreApart}
use Rattle.plant_invariant.specs.{HasMovementValues, AreCounted, AreOfOneMerge, AreDistinct, IsBooking, are_one_birth, IsBirth, IsAsked}
use Rattle.plant_invariant.specs.StateInvariant.{StateInvariant}
use Rattle.plant_invariant.proofs.SublotBirths.{PossibleOutcomes}
use Rattle.plant_invariant.proofs.CommandKeepsRows.{IsNextStamp, IsNextBooking, sub_small}

module _ (seq : ℕ) (t : Stamp) (new : List ℕ) where
  lines_each : (P : Movement → Type 0) → ((k : ℕ) (p : Part) → P (part_line seq t new k p)) → (k : ℕ) (ps : List Part) → AllByRecursion P (part_lines seq t new k ps)
  lines_each P f k [] = tt
  lines_each P f k (p ∷ ps) = (f k p, lines_each P f (k + 1) ps)

  lines_counted : (k : ℕ) (ps : List Part) → AreCounted k (map (λ m. m.line) (part_lines seq t new k ps))
  lines_counted k [] = tt
  lines_counted k (p ∷ ps) = (refl, lines_counted (k + 1) ps)

  lines_many : (k : ℕ) (ps : List Part) → length (part_lines seq t new k ps) ≡ length ps
  lines_many k [] = refl
  lines_many k (p ∷ ps) = omega (arith, lines_many (k + 1) ps)

  lines_merged : (k : ℕ) (ps : List Part) → AreOfOneMerge (part_lines seq t new k ps)
  lines_merged k [] = tt
  lines_merged k (p ∷ ps) = lines_each (λ x. are_one_merge (Merged new) x.kind ≡ true) (λ j q. same_itself new) (k + 1) ps

  lines_distinct : (k : ℕ) (ps : List Part) → AreApart ps → AreDistinct (part_lines seq t new k ps)
  lines_distinct k [] apart = tt
  lines_distinct k (p ∷ ps) apart = (all_lines seq t new (λ x. is_one_source (part_line seq t new k p) x ≡ false) (Apart p) (λ j q e. e) (k + 1) ps apart.0, lines_distinct (k + 1) ps apart.1)

  lines_one : (ps : List Part) → length ps ≤ greatest_parts → AreApart ps → IsBooking (part_lines seq t new 1 ps)
  lines_one ps few apart = record {
    numbered = lines_counted 1 ps;
    few = omega (arith, few, lines_many 1 ps);
    merged = lines_merged 1 ps;
    distinct = lines_distinct 1 ps apart;
  }

  -- they make one lot
  pub lines_birth : (ps : List Part) → 1 ≤ length ps → IsBirth (part_lines seq t new 1 ps)
  lines_birth [] some = absurd (omega (arith, some))
  lines_birth (p ∷ ps) some = ((refl, refl), lines_each (λ x. (x.seq ≡ seq + 1) × (are_one_birth (Merged new) x.kind ≡ true)) (λ j q. (refl, refl)) 2 ps)

  pub lines_lead : (place : List ℕ) (ps : List Part) → PossibleOutcomes (record { lot = new; number = 0; place = place }) (part_lines seq t new 1 ps)
  lines_lead place ps = lines_each _ (λ j q. refl) 1 ps

pub lines_asked : (s : State) (r : Lot) (t : Stamp) (ps : List Part) → AllByRecursion (λ m. IsAsked (put lot_order r s.lots) s.control_lines m.kind m.lot) (part_lines s.seq t r.id 1 ps)
lines_asked s r t ps = lines_each s.seq t r.id _ (λ j q. tt) 1 ps

-- the parts' lines are the booking of the next command
pub part_booking : (s : State) (valid : StateInvariant s) (t : Stamp) (stamp : IsNextStamp s t) (new : List ℕ) (ps : List Part) → is_id new ≡ true → AllByRecursion HasPartValues ps → AllByRecursion (λ p. is_some (place_at s p.lot p.sub) ≡ true) ps → length ps ≤ greatest_parts → AreApart ps
    → IsNextBooking s t (part_lines s.seq t new 1 ps)
part_booking s valid t stamp new ps named values there few apart = record {
  stamped = lines_each s.seq t new _ (λ k p. (refl, refl)) 1 ps;
  values = all_lines s.seq t new HasMovementValues (λ p. HasPartValues p × (is_some (place_at s p.lot p.sub) ≡ true))
      (λ k p v. record { kind = named; lot = v.0.0; sub = sub_small s valid t stamp p.lot p.sub v.1; amount = v.0.1; at = stamp.at; by = stamp.by; note = stamp.note })
      1 ps (all_two HasPartValues (λ p. is_some (place_at s p.lot p.sub) ≡ true) (λ p. HasPartValues p × (is_some (place_at s p.lot p.sub) ≡ true)) (λ p v e. (v, e)) ps values there);
  one = lines_one s.seq t new ps few apart;
  from = all_lines s.seq t new (λ m. IsThere s (comes_from m.kind m.lot m.sub)) (λ p. is_some (place_at s p.lot p.sub) ≡ true) (λ k p e. e) 1 ps there;
}
