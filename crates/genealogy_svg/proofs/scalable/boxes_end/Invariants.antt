use Rattle.std.proofs.Common.{◌≡◌, take}
use Rattle.genealogy_svg.specs.declared.drawing.DrawnBatch.{DrawnBatch}
use Rattle.genealogy_svg.specs.declared.drawing.DrawnLot.{DrawnLot}
use Rattle.genealogy_svg.specs.{greatest, lower_end}
use Rattle.genealogy_svg.proofs.scalable.boxes_end.Given as goal

abbrev pub invariant-loop-lot : goal.invariant-loop-lot
invariant-loop-lot l = l.height ≡ greatest (λ (x : DrawnLot). lower_end x.position) 136 (take l.lot-index l.drawing.lots)

abbrev pub invariant-loop-batch : goal.invariant-loop-batch
invariant-loop-batch l = l.height ≡ greatest (λ (x : DrawnBatch). lower_end x.position) (greatest (λ (x : DrawnLot). lower_end x.position) 136 l.drawing.lots) (take l.batch-index l.drawing.batches)
