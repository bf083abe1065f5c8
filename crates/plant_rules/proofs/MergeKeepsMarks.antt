-- A merge of lots that no open recall reaches leaves the marks.
use Rattle.std.proofs.Common.{◌≡◌, ℕ, ◌+◌, false, List, [], ◌∷◌, ◌++◌}
use Rattle.std.specs.List.{AllByRecursion}
use Rattle.std.proofs.lemmas.Bool.{or_parts}
use Rattle.plant_base.specs.{State, Part, Recall, Stamp}
use Rattle.plant_trace.specs.declared.node.Node.TheVariants as node
use Rattle.plant_view.specs.{edges_of, edges_among, marks, is_blocked}
use Rattle.plant_view.proofs.MarksAfterMovement.{Misses, Avoids, unblocked, marks_stay}
use Rattle.plant_rules.specs.{part_lines, is_some_blocked}

module _ (s : State) (seq : ℕ) (t : Stamp) (new : List ℕ) where
  part_misses : (ps : List Part) → is_some_blocked s ps ≡ false → AllByRecursion (λ p. AllByRecursion (Misses (edges_of s) (node.Lot p.lot)) s.recalls) ps
  part_misses [] e = tt
  part_misses (p ∷ ps) e =
      let both = or_parts (is_blocked s p.lot) (is_some_blocked s ps) e in
      (unblocked s p.lot both.0, part_misses ps both.1)

  one_avoids : (r : Recall) (rs : List Recall) (k : ℕ) (ps : List Part) → AllByRecursion (λ p. AllByRecursion (Misses (edges_of s) (node.Lot p.lot)) (r ∷ rs)) ps → AllByRecursion (Avoids s (part_lines seq t new k ps) r) (part_lines seq t new k ps)
  one_avoids r rs k ps a = by (part_lines seq t new 1 []) k ps a
    where
      by : (all : _) (j : ℕ) (qs : List Part) → AllByRecursion (λ p. AllByRecursion (Misses (edges_of s) (node.Lot p.lot)) (r ∷ rs)) qs → AllByRecursion (Avoids s all r) (part_lines seq t new j qs)
      by all j [] b = tt
      by all j (q ∷ qs) b = (b.0.0, by all (j + 1) qs b.1)

  later : (r : Recall) (rs : List Recall) (ps : List Part) → AllByRecursion (λ p. AllByRecursion (Misses (edges_of s) (node.Lot p.lot)) (r ∷ rs)) ps → AllByRecursion (λ p. AllByRecursion (Misses (edges_of s) (node.Lot p.lot)) rs) ps
  later r rs [] a = tt
  later r rs (p ∷ ps) a = (a.0.1, later r rs ps a.1)

  all_avoid : (k : ℕ) (ps : List Part) (rs : List Recall) → AllByRecursion (λ p. AllByRecursion (Misses (edges_of s) (node.Lot p.lot)) rs) ps → AllByRecursion (λ r. AllByRecursion (Avoids s (part_lines seq t new k ps) r) (part_lines seq t new k ps)) rs
  all_avoid k ps [] a = tt
  all_avoid k ps (r ∷ rs) a = (one_avoids r rs k ps a, all_avoid k ps rs (later r rs ps a))

  pub marks_merged : (k : ℕ) (ps : List Part) → is_some_blocked s ps ≡ false → marks s.recalls (edges_among (s.movements ++ part_lines seq t new k ps)) ≡ marks s.recalls (edges_of s)
  marks_merged k ps free = marks_stay s (part_lines seq t new k ps) (all_avoid k ps s.recalls (part_misses ps free))
