use Rattle.std.proofs.Common.{List, subst, IsPermutation, rules}
use Rattle.std.proofs.lemmas.List.Sorted.{answers_always}
use Rattle.plant_trace.specs.{Node}
use Rattle.plant_keyed.proofs.CachedEdges.{turned_are}
use Rattle.plant_keyed.proofs.edge_cache.EdgeCache.new.Goals as goal

pub invariant_of-result : goal.invariant_of-result
invariant_of-result c = record { ascend = c.in_ok-sort_by_key.ensures.sorted (λ l. l.0) (answers_always _ _ _ (λ f a r g h. search rules)) }

pub returns-clause-turned : goal.returns-clause-turned
returns-clause-turned c =
    turned_are c.args.direction c.args.pairs.now c.sort_by_key.new.self.items
    (subst (λ (l : List (Node × Node)). IsPermutation l c.sort_by_key.new.self.items) c.in_ok-links.ensures c.sort_by_key.ensures.permutation)
