use Rattle.std.proofs.Common.{◌≡◌, take}
use Rattle.plant_text.specs.{held_after}
use Rattle.line_check.specs.{verdicts_after, AreWrittenAndCounted}
use Rattle.line_check.proofs.lines.take_piece.Given as goal

abbrev pub invariant-loop-b : goal.invariant-loop-b
invariant-loop-b g l = record {
  held : l.held.items ≡ held_after l.fn.held.items (take l.b-index l.piece);
  reported : AreWrittenAndCounted l.fn.tally (verdicts_after l.fn.held.items (take l.b-index l.piece))
      (g.W.Write.contents l.fn.writer) (g.W.Write.contents l.writer) l.tally;
}
