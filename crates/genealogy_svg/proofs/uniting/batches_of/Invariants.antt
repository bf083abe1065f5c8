use Rattle.std.proofs.Common.{◌≡◌, [], drop}
use Rattle.genealogy_svg.specs.{batches_from}
use Rattle.genealogy_svg.proofs.uniting.batches_of.Given as goal

abbrev pub invariant-loop-batch : goal.invariant-loop-batch
invariant-loop-batch l = batches_from [] l.reported ≡ batches_from l.batches.keys (drop l.batch-index l.reported)
