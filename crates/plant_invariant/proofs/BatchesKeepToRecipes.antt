-- Batches keep to their control recipes after one more command.
use Rattle.std.proofs.Common.{◌≡◌, ◌∙◌, ℕ, true, false, List, is_some, ap}
use Rattle.plant_base.specs.{State, same, put, lot_order, control_line_order, lot_at, ControlLine, Lot, Movement, MovementKind, RecipeLine}
use Rattle.plant_base.specs.declared.rows.MovementKind.TheVariants as kind
use Rattle.plant_stock.specs.{goes_to, comes_from}
use Rattle.plant_view.specs.{batch_by, IsBatchThere, control_line, control_among, is_batch_among, numbered, put_all, IsThere, is_taken, is_made}
use Rattle.plant_view.specs.DecisionInvariant.{DecisionInvariant}
use Rattle.plant_view.proofs.ListLemmas.{all_two, filter_past_all, all_numbered}
use Rattle.plant_view.proofs.CommandsPreserveInvariant.{lot_known, lot_stays}
use Rattle.plant_view.proofs.RowKeys.{control_line_order_total, control_batch_tied, ids_apart}
use Rattle.plant_rules.specs.{def_of}
use Rattle.plant_invariant.specs.{IsAsked}
use Rattle.plant_invariant.specs.KeepToRecipes.{KeepToRecipes}

-- ---- a new lot

module _ (s : State) (sound : DecisionInvariant s) (r : Lot) (none : is_some (lot_at s r.id) ≡ false) where
  asked_still : (k : MovementKind) (lot : List ℕ) (sub : ℕ) → IsThere s (goes_to k lot sub) → IsThere s (comes_from k lot sub) → IsAsked s.lots s.control_lines k lot → IsAsked (put lot_order r s.lots) s.control_lines k lot
  asked_still kind.Received lot sub to from asked = tt
  asked_still (kind.Consumed batch) lot sub to from asked = ap (λ o. is_taken (control_among s.control_lines batch) (def_of o)) (lot_stays s sound r none lot (lot_known s sound (lot, sub) from)) ∙ asked
  asked_still (kind.Produced batch) lot sub to from asked = ap (λ o. is_made (control_among s.control_lines batch) (def_of o)) (lot_stays s sound r none lot (lot_known s sound (lot, sub) to)) ∙ asked
  asked_still kind.Scrapped lot sub to from asked = tt
  asked_still (kind.Divided new) lot sub to from asked = tt
  asked_still (kind.Split new) lot sub to from asked = tt
  asked_still (kind.Merged new) lot sub to from asked = tt

  -- the lots that were there are of their definitions
  pub kept_with_lot : KeepToRecipes s.lots s.control_lines s.movements → KeepToRecipes (put lot_order r s.lots) s.control_lines s.movements
  kept_with_lot kept = all_two _ _ _ (λ (m : Movement) named asked. asked_still m.kind m.lot m.sub named.0 named.1 asked) s.movements sound.stock.named kept

-- ---- a new batch

module _ (s : State) (sound : DecisionInvariant s) (new : List ℕ) (free : is_batch_among s.batches new ≡ false) (lines : List RecipeLine) where
  abbrev with_lines : List ControlLine
  with_lines = put_all control_line_order (numbered (control_line new) 1 lines) s.control_lines

  -- the batches that were there have their lines
  lines_stay : (batch : List ℕ) → is_batch_among s.batches batch ≡ true → control_among with_lines batch ≡ control_among s.control_lines batch
  lines_stay batch known =
      let own = λ (l : ControlLine). same l.batch batch in
      filter_past_all control_line_order control_line_order_total own (control_batch_tied batch) (numbered (control_line new) 1 lines) s.control_lines
      (all_numbered (control_line new) (λ l. own l ≡ false) (λ k l. (ids_apart (is_batch_among s.batches) batch new known free).1) 1 lines)

  asked_yet : (k : MovementKind) (lot : List ℕ) → IsBatchThere s.batches (batch_by k) → IsAsked s.lots s.control_lines k lot → IsAsked s.lots with_lines k lot
  asked_yet kind.Received lot known asked = tt
  asked_yet (kind.Consumed batch) lot known asked = ap (λ ls. is_taken ls (def_of (lot_at s lot))) (lines_stay batch known) ∙ asked
  asked_yet (kind.Produced batch) lot known asked = ap (λ ls. is_made ls (def_of (lot_at s lot))) (lines_stay batch known) ∙ asked
  asked_yet kind.Scrapped lot known asked = tt
  asked_yet (kind.Divided to) lot known asked = tt
  asked_yet (kind.Split to) lot known asked = tt
  asked_yet (kind.Merged to) lot known asked = tt

  pub kept_with_batch : KeepToRecipes s.lots s.control_lines s.movements → KeepToRecipes s.lots with_lines s.movements
  kept_with_batch kept = all_two _ _ _ (λ (m : Movement) known asked. asked_yet m.kind m.lot known asked) s.movements sound.genealogy.batched kept
