use Rattle.std.proofs.Common.{◌≡◌, [], drop}
use Rattle.genealogy_svg.specs.{batches_in}
use Rattle.genealogy_svg.proofs.layouts.batches_in.Given as goal

abbrev pub invariant-loop-batch : goal.invariant-loop-batch
invariant-loop-batch l = batches_in l.positions [] l.batches ≡ batches_in l.positions l.drawn.items (drop l.batch-index l.batches)
