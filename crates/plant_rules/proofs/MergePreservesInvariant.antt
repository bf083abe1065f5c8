-- A merge keeps a state consistent.
use Rattle.std.proofs.Common.{◌≡◌, ◌∙◌, ℕ, ◌+◌, ◌-◌, ◌≤◌, Bool, true, false, cond, List, [], ◌∷◌, ◌++◌, Option, Some, None, length, is_some, refl, sym, ap, append_assoc, arith, ◌==◌, ◌&&◌, not, append-nil}
use Rattle.std.specs.List.{AllByRecursion}
use Rattle.std.proofs.lemmas.List.Sums.{sum_by-cons}
use Rattle.std.proofs.lemmas.Bool.{false≢true}
use Rattle.plant_base.specs.{greatest_amount, State, same, lot_order, definition_at, lot_at, place_at, Lot, Merge, Movement, Part, Place, Stamp}
use Rattle.plant_view.proofs.ListLemmas.{all_weaker, found_new, same_id, same_key, same_itself, all_two, each_fails, not_false}
use Rattle.plant_stock.specs.{entered, left, leaving, goes_to, comes_from, total_of}
use Rattle.plant_stock.proofs.StockAfterMovement.{entered_push, left_push}
use Rattle.plant_view.specs.{sublot_standing, is_of_lot, IsThere, IsOneMaterial, edge_of, batch_by, IsBatchThere}
use Rattle.plant_rules.specs.{def_of, part_line, part_lines, def_at, def_of_parts, is_mixed, merge}
use Rattle.plant_view.specs.DecisionInvariant.{DecisionInvariant}
use Rattle.plant_trace.specs.declared.node.Node.TheVariants as node
use Rattle.plant_view.proofs.GenealogyAfterMovement.{EdgeHas, descent_grows, keeps_into_new}
use Rattle.plant_view.proofs.CommandsPreserveInvariant.{lot_stays, there_still}
use Rattle.plant_rules.proofs.BirthPreservesInvariant.{first_there, consistent_with_lot}
use Rattle.plant_rules.proofs.SplitPreservesInvariant.{def_known}
use Rattle.plant_rules.proofs.MergeParts.{AreApart}

-- ---- the lines of the parts

chosen_sum : (b : Bool) (x y : ℕ) → cond b x 0 + cond b y 0 ≡ cond b (x + y) 0
chosen_sum true x y = refl
chosen_sum false x y = refl

module _ (seq : ℕ) (t : Stamp) (new : List ℕ) where
  -- what holds of the line of each part
  pub all_lines : (P : Movement → Type 0) (Q : Part → Type 0) → ((k : ℕ) (p : Part) → Q p → P (part_line seq t new k p)) → (k : ℕ) (ps : List Part) → AllByRecursion Q ps → AllByRecursion P (part_lines seq t new k ps)
  all_lines P Q f k [] a = tt
  all_lines P Q f k (p ∷ ps) a = (f k p a.0, all_lines P Q f (k + 1) ps a.1)

  -- all that the lines bring goes to sublot 0 of the new lot
  entered_all : (ms : List Movement) (k : ℕ) (ps : List Part) (l : List ℕ) (n : ℕ) → entered (ms ++ part_lines seq t new k ps) l n ≡ entered ms l n + cond (same new l && 0 == n) (total_of ps) 0
  entered_all ms k [] l n =
      let nothing : cond (same new l && 0 == n) 0 0 ≡ 0 = chosen_none (same new l && 0 == n) in
      ap (λ xs. entered xs l n) (append-nil ms) ∙ omega (arith, nothing)
    where
      chosen_none : (b : Bool) → let z : ℕ = 0 in cond b z z ≡ z
      chosen_none true = refl
      chosen_none false = refl
  entered_all ms k (p ∷ ps) l n =
      let m = part_line seq t new k p in
      let lines = part_lines seq t new (k + 1) ps in
      let again = ap (λ xs. entered xs l n) (append_assoc ms (m ∷ []) lines) in
      let both = chosen_sum (same new l && 0 == n) p.amount (total_of ps) in
      let total = ap (λ a. cond (same new l && 0 == n) a 0) (sum_by-cons (λ (q : Part). q.amount) p ps) in
      omega (arith, again, entered_all (ms ++ m ∷ []) (k + 1) ps l n, entered_push ms m l n, both, total)

  -- what a part takes from a sublot that holds it
  taken_covered : (ms : List Movement) (p : Part) → p.amount ≤ entered ms p.lot p.sub - left ms p.lot p.sub → ((l : List ℕ) (n : ℕ) → left ms l n ≤ entered ms l n) → (l : List ℕ) (n : ℕ) → left ms l n + cond (same p.lot l && p.sub == n) p.amount 0 ≤ entered ms l n
  taken_covered ms p enough covered l n = elim (same p.lot l && p.sub == n) as (λ b. (same p.lot l && p.sub == n) ≡ b → left ms l n + cond b p.amount 0 ≤ entered ms l n) [
    | true ↦ λ e.
        let keys = same_key p.lot l p.sub n e in
        let here : entered ms p.lot p.sub - left ms p.lot p.sub ≡ entered ms l n - left ms l n = λ i. entered ms (keys.0 i) (keys.1 i) - left ms (keys.0 i) (keys.1 i) in
        omega (arith, here, enough, covered l n)
    | false ↦ λ e. omega (arith, covered l n)
  ] refl

  -- no more is taken from a sublot than it was given, since the parts name different sublots
  covered_lines : (ms : List Movement) (k : ℕ) (ps : List Part) → AllByRecursion (λ p. p.amount ≤ entered ms p.lot p.sub - left ms p.lot p.sub) ps → AreApart ps → ((l : List ℕ) (n : ℕ) → left ms l n ≤ entered ms l n)
      → (l : List ℕ) (n : ℕ) → left (ms ++ part_lines seq t new k ps) l n ≤ entered (ms ++ part_lines seq t new k ps) l n
  covered_lines ms k [] enough apart covered l n = omega (arith, ap (λ xs. left xs l n) (append-nil ms), ap (λ xs. entered xs l n) (append-nil ms), covered l n)
  covered_lines ms k (p ∷ ps) enough apart covered l n =
      let m = part_line seq t new k p in
      let now = ms ++ m ∷ [] in
      let lines = part_lines seq t new (k + 1) ps in
      let rest = all_two _ _ (λ (q : Part). q.amount ≤ entered now q.lot q.sub - left now q.lot q.sub) (λ (q : Part) e a.
      let stays : leaving m q.lot q.sub ≡ 0 = ap (λ b. cond b p.amount 0) a in
      omega (arith, e, stays, entered_push ms m q.lot q.sub, left_push ms m q.lot q.sub)) ps enough.1 apart.0 in
      let still = λ (l : List ℕ) (n : ℕ). let h = taken_covered ms p enough.0 covered l n in let goal : left now l n ≤ entered now l n = omega (arith, entered_push ms m l n, left_push ms m l n, h) in goal in
      let left_again = ap (λ xs. left xs l n) (append_assoc ms (m ∷ []) lines) in
      let entered_again = ap (λ xs. entered xs l n) (append_assoc ms (m ∷ []) lines) in
      omega (arith, left_again, entered_again, covered_lines now (k + 1) ps rest apart.1 still l n)

-- ---- one definition

-- a lot that is there is of its definition alone
of_def : (def : List ℕ) (o : Option Lot) → is_some o ≡ true → is_of_lot def o ≡ same (def_of o) def
of_def def None e = absurd (false≢true e)
of_def def (Some lot) e = refl

-- the parts' lots are of the definition of the first
all_alike : (s : State) (ps : List Part) → is_mixed s ps ≡ false → AllByRecursion (λ p. def_at s p.lot ≡ def_of_parts s ps) ps
all_alike s ps e = all_weaker _ _ (λ (p : Part) f. same_id _ _ (not_false _ f)) ps (each_fails (λ (p : Part). not (same (def_at s p.lot) (def_of_parts s ps))) ps e)

-- and that is there
def_there : (s : State) → DecisionInvariant s → (ps : List Part) → 1 ≤ length ps → AllByRecursion (λ p. is_some (lot_at s p.lot) ≡ true) ps → is_some (definition_at s (def_of_parts s ps)) ≡ true
def_there s sound [] some known = absurd (omega (arith, some))
def_there s sound (p ∷ ps) some known = def_known s sound p.lot (lot_at s p.lot) refl known.0

-- ---- the merge

pub merge_preserves_invariant : (s : State) → DecisionInvariant s → (t : Stamp) (c : Merge) → 1 ≤ length c.parts → AreApart c.parts
    → AllByRecursion (λ p. is_some (lot_at s p.lot) ≡ true) c.parts → AllByRecursion (λ p. is_some (place_at s p.lot p.sub) ≡ true) c.parts
    → is_some (lot_at s c.new) ≡ false → AllByRecursion (λ p. p.amount ≤ sublot_standing s p.lot p.sub) c.parts → total_of c.parts ≤ greatest_amount → is_mixed s c.parts ≡ false → DecisionInvariant (merge s t c)
merge_preserves_invariant s sound t c some apart known there none enough small alike =
    let new = merge s t c in
    let ps = c.parts in
    let r : Lot = record { id = c.new; def = def_of_parts s ps } in
    let p : Place = record { lot = c.new; number = 0; place = c.place } in
    let ms = s.movements in
    let lines = part_lines s.seq t c.new 1 ps in
    let new_there = first_there s t r c.place lines in
    let one = all_two _ _ (λ (q : Part). (def : List ℕ) → is_of_lot def (lot_at new c.new) ≡ is_of_lot def (lot_at new q.lot)) (λ (q : Part) is known def.
    ap (is_of_lot def) (found_new lot_order r (λ x. same x.id c.new) s.lots (same_itself c.new) none)
    ∙ ap (λ d. same d def) (sym is) ∙ sym (of_def def (lot_at s q.lot) known)
    ∙ sym (ap (is_of_lot def) (lot_stays s sound r none q.lot known))) ps (all_alike s ps alike) known in
    consistent_with_lot s sound t r c.place lines (total_of ps) (def_there s sound ps some known) none (record {
      named = all_lines s.seq t c.new (λ m. IsThere new (goes_to m.kind m.lot m.sub) × IsThere new (comes_from m.kind m.lot m.sub)) (λ q. is_some (place_at s q.lot q.sub) ≡ true) (λ k q there. (new_there, there_still s new p refl (Some (q.lot, q.sub)) there)) 1 ps there;
      one_material = all_lines s.seq t c.new (λ m. IsOneMaterial new (goes_to m.kind m.lot m.sub) (comes_from m.kind m.lot m.sub)) (λ q. (def : List ℕ) → is_of_lot def (lot_at new c.new) ≡ is_of_lot def (lot_at new q.lot)) (λ k q is. is) 1 ps one;
      small = small;
      entering = entered_all s.seq t c.new ms 1 ps;
      covered = covered_lines s.seq t c.new ms 1 ps enough apart sound.stock.covered;
      descended = descent_grows s.batches ms lines sound.genealogy
          (all_lines s.seq t c.new (λ m. IsBatchThere s.batches (batch_by m.kind)) (λ q. is_some (lot_at s q.lot) ≡ true) (λ k q known. tt) 1 ps known)
          (keeps_into_new s sound c.new lines none (all_lines s.seq t c.new (λ m. EdgeHas (λ x y. (y ≡ node.Lot c.new) × (x ≡ node.Lot c.new → ⊥)) (edge_of m)) (λ q. is_some (lot_at s q.lot) ≡ true)
          (λ k q known. (refl, λ e. let same : q.lot ≡ c.new = cc in false≢true (sym none ∙ ap (λ l. is_some (lot_at s l)) (sym same) ∙ known))) 1 ps known));
    })
