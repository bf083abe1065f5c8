-- A rank that rises along pairs leaves no cycle.
use Rattle.std.proofs.Common.{ℕ, ◌<◌, List, arith}
use Rattle.std.proofs.lemmas.List.Elements.{All-contains}
use Rattle.plant_trace.specs.{step, more, HasEdge, IsAcyclic, Rises}
use Rattle.plant_trace.specs.Reach.{Reach}
use Rattle.plant_trace.specs.declared.node.Node.{Node}

module _ (rank : Node → ℕ) (pairs : List (Node × Node)) (rises : Rises rank pairs) where
  rises_at : (a b : Node) → HasEdge pairs a b → rank a < rank b
  rises_at a b e = All-contains (λ (p : Node × Node). rank p.0 < rank p.1) pairs (a, b) rises e

  rises_along : {a b : Node} → Reach (HasEdge pairs) a b → rank a < rank b
  rises_along (step {a = u} {b = v} e) = rises_at u v e
  rises_along (more {a = u} {b = v} {c = w} r e) = let first = rises_along r in let last = rises_at v w e in omega arith

  pub ranked_acyclic : IsAcyclic pairs
  ranked_acyclic x r = let low = rises_along r in omega arith
