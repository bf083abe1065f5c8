use Rattle.std.proofs.Common.{◌≡◌, take}
use Rattle.genealogy_svg.specs.declared.drawing.DrawnBatch.{DrawnBatch}
use Rattle.genealogy_svg.specs.declared.drawing.DrawnLot.{DrawnLot}
use Rattle.genealogy_svg.specs.{greatest, right_end}
use Rattle.genealogy_svg.proofs.scalable.width_of.Given as goal

abbrev pub invariant-loop-lot : goal.invariant-loop-lot
invariant-loop-lot l = l.width ≡ greatest (λ (x : DrawnLot). right_end x.position) 480 (take l.lot-index l.drawing.lots)

abbrev pub invariant-loop-batch : goal.invariant-loop-batch
invariant-loop-batch l = l.width ≡ greatest (λ (x : DrawnBatch). right_end x.position) (greatest (λ (x : DrawnLot). right_end x.position) 480 l.drawing.lots) (take l.batch-index l.drawing.batches)
