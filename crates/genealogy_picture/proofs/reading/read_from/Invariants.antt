use Rattle.std.proofs.Common.{◌≡◌, drop}
use Rattle.genealogy_picture.specs.{start, read_from}
use Rattle.genealogy_picture.proofs.reading.read_from.Given as goal

abbrev pub invariant-loop-b : goal.invariant-loop-b
invariant-loop-b l = read_from start l.bytes ≡ read_from l.reading (drop l.b-index l.bytes)
