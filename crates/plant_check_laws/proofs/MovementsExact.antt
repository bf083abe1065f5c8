-- The rule on movements: the sublots and the batches that they name are there, and the definitions of their lots fit.
use Rattle.std.proofs.Common.{◌≡◌, ◌∙◌, ℕ, true, List, map, Option, Some, None, is_some, refl, sym, ap, ◌&&◌, ◌==◌, Decides}
use Rattle.std.specs.List.{AllByRecursion}
use Rattle.std.proofs.lemmas.Bool.{false≢true}
use Rattle.plant_base.specs.{State, same, lot_at, place_at, Batch, BatchRow, ControlLine, Lot, Movement, MovementKind, Place, Sublot}
use Rattle.plant_base.specs.declared.rows.MovementKind.TheVariants as kind
use Rattle.plant_view.proofs.ListLemmas.{found_passes, found_keeps, same_id, same_key, same_itself}
use Rattle.plant_stock.specs.{goes_to, comes_from}
use Rattle.plant_view.specs.{is_of_lot, batch_by, IsBatchThere, is_taken, is_made, control_among, IsThere, IsOneMaterial, place_of_row, batch_of_row}
use Rattle.plant_rules.specs.{def_of}
use Rattle.plant_invariant.specs.{IsAsked}
use Rattle.plant_requirements.specs.{is_there, is_batch_there, names_known, are_of_one, is_asked_for, is_yielded, is_of_right_definition, is_of_right_merge, is_right_movement, are_movements}
use Rattle.plant_check_laws.proofs.ExactTests.{passing, both, both_then, in_words, all_exact, any_mapped_exact}

-- ---- definitions of lots that are there

asked_exact : (lines : List ControlLine) (o : Option Lot) → is_some o ≡ true → Decides (is_asked_for lines o) (is_taken lines (def_of o) ≡ true)
asked_exact lines None there = absurd (false≢true there)
asked_exact lines (Some l) there = passing (is_taken lines l.def)

yielded_exact : (lines : List ControlLine) (o : Option Lot) → is_some o ≡ true → Decides (is_yielded lines o) (is_made lines (def_of o) ≡ true)
yielded_exact lines None there = absurd (false≢true there)
yielded_exact lines (Some l) there = passing (is_made lines l.def)

-- lots of one definition are of each definition alike
one_exact : (from to : Option Lot) → is_some from ≡ true → is_some to ≡ true → Decides (are_of_one from to) ((def : List ℕ) → is_of_lot def to ≡ is_of_lot def from)
one_exact None to there also = absurd (false≢true there)
one_exact (Some a) None there also = absurd (false≢true also)
one_exact (Some a) (Some b) there also = ((λ e def. ap (λ d. same d def) (sym (same_id a.def b.def e))), (λ one. sym (one b.def) ∙ same_itself b.def))

-- ---- what the rule says of a movement

abbrev IsDefined : State → MovementKind → List ℕ → ℕ → Type 0
IsDefined t k lot sub = IsOneMaterial t (goes_to k lot sub) (comes_from k lot sub) × IsAsked t.lots t.control_lines k lot

pub record IsRight (t : State) (m : Movement) : Type 0 where
  pub named : IsThere t (goes_to m.kind m.lot m.sub) × IsThere t (comes_from m.kind m.lot m.sub)
  pub batched : IsBatchThere t.batches (batch_by m.kind)
  pub defined : IsDefined t m.kind m.lot m.sub
  pub merge : is_of_right_merge t.movements m ≡ true

-- ---- movements of the state of rows whose sublots have their lots

module _ (s : State) (sublots : List Sublot) (batches : List BatchRow) where
  abbrev t : State
  t = record s { batches = map batch_of_row batches; places = map place_of_row sublots }

  there_exact : (k : Option (List ℕ × ℕ)) → Decides (is_there sublots k) (IsThere t k)
  there_exact None = ((λ e. tt), (λ there. refl))
  there_exact (Some k) = any_mapped_exact (λ (p : Place). same p.lot k.0 && p.number == k.1) place_of_row sublots

  batch_exact : (k : Option (List ℕ)) → Decides (is_batch_there batches k) (IsBatchThere t.batches k)
  batch_exact None = ((λ e. tt), (λ there. refl))
  batch_exact (Some id) = any_mapped_exact (λ (b : Batch). same b.id id) batch_of_row batches

  module _ (housed : AllByRecursion (λ p. is_some (lot_at t p.lot) ≡ true) t.places) where
    lot_known : (k : List ℕ × ℕ) → IsThere t (Some k) → is_some (lot_at t k.0) ≡ true
    lot_known k there = by (place_at t k.0 k.1) refl there
      where
        by : (o : Option Place) → place_at t k.0 k.1 ≡ o → is_some o ≡ true → is_some (lot_at t k.0) ≡ true
        by None e h = absurd (false≢true h)
        by (Some p) e h = ap (λ l. is_some (lot_at t l)) (sym (same_key p.lot k.0 p.number k.1 (found_passes _ t.places p e)).0) ∙ found_keeps (λ (p : Place). is_some (lot_at t p.lot) ≡ true) _ t.places p housed e

    definition_exact : (k : MovementKind) (lot : List ℕ) (sub : ℕ) → IsThere t (goes_to k lot sub) → IsThere t (comes_from k lot sub) → Decides (is_of_right_definition t.lots t.control_lines k lot) (IsDefined t k lot sub)
    definition_exact kind.Received lot sub to from = ((λ e. (tt, tt)), (λ d. refl))
    definition_exact (kind.Consumed batch) lot sub to from = in_words (asked_exact (control_among t.control_lines batch) (lot_at t lot) (lot_known (lot, sub) from)) (λ a. (tt, a)) (λ d. d.1)
    definition_exact (kind.Produced batch) lot sub to from = in_words (yielded_exact (control_among t.control_lines batch) (lot_at t lot) (lot_known (lot, sub) to)) (λ y. (tt, y)) (λ d. d.1)
    definition_exact kind.Scrapped lot sub to from = ((λ e. (tt, tt)), (λ d. refl))
    definition_exact (kind.Divided part) lot sub to from = ((λ e. ((λ def. refl), tt)), (λ d. refl))
    definition_exact (kind.Split new) lot sub to from = in_words (one_exact (lot_at t lot) (lot_at t new) (lot_known (lot, sub) from) (lot_known (new, 0) to)) (λ one. (one, tt)) (λ d. d.0)
    definition_exact (kind.Merged new) lot sub to from = in_words (one_exact (lot_at t lot) (lot_at t new) (lot_known (lot, sub) from) (lot_known (new, 0) to)) (λ one. (one, tt)) (λ d. d.0)

    movement_exact : (m : Movement) → Decides (is_right_movement t.lots sublots batches t.control_lines t.movements m) (IsRight t m)
    unfolding is_right_movement
    movement_exact m =
        let names : Decides (names_known sublots batches m) ((IsThere t (goes_to m.kind m.lot m.sub) × IsThere t (comes_from m.kind m.lot m.sub)) × IsBatchThere t.batches (batch_by m.kind)) =
        both (both (there_exact (goes_to m.kind m.lot m.sub)) (there_exact (comes_from m.kind m.lot m.sub))) (batch_exact (batch_by m.kind)) in
        in_words (both (both_then names (λ n. definition_exact m.kind m.lot m.sub n.0.0 n.0.1)) (passing (is_of_right_merge t.movements m)))
        (λ p. record { named = p.0.0.0; batched = p.0.0.1; defined = p.0.1; merge = p.1 })
        (λ a. (((a.named, a.batched), a.defined), a.merge))

    pub movements_exact : Decides (are_movements t.lots sublots batches t.control_lines t.movements) (AllByRecursion (IsRight t) t.movements)
    movements_exact = all_exact (is_right_movement t.lots sublots batches t.control_lines t.movements) (IsRight t) movement_exact t.movements
