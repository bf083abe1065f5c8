use Rattle.std.proofs.Common.{◌≡◌, []}
use Rattle.genealogy_svg.specs.{edges_in}
use Rattle.genealogy_svg.proofs.uniting.edges_in.Given as goal

abbrev pub invariant-loop-ends : goal.invariant-loop-ends
invariant-loop-ends l = edges_in l.lots.entries l.batches.keys [] l.fn.amounts.entries ≡ edges_in l.lots.entries l.batches.keys l.edges.items l.ends-iterator
