use Rattle.std.proofs.Common.{◌≡◌, ◌++◌, map, take}
use Rattle.plant_trace.specs.declared.node.Node.TheVariants.{Lot, Batch}
use Rattle.genealogy_svg.proofs.layouts.nodes_of.Given as goal

abbrev pub invariant-loop-lot : goal.invariant-loop-lot
invariant-loop-lot l = l.nodes.items ≡ map (λ x. Lot x.id) (take l.lot-index l.picture.lots)

abbrev pub invariant-loop-batch : goal.invariant-loop-batch
invariant-loop-batch l = l.nodes.items ≡ map (λ x. Lot x.id) l.picture.lots ++ map Batch (take l.batch-index l.picture.batches)
