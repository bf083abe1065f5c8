use Rattle.std.proofs.Common.{◌≡◌, ℕ, List, []}
use Rattle.std.specs.Io.KnownBytes.{Consumes}
use Rattle.plant_text.specs.{held_after}
use Rattle.line_check.specs.{no_lines, verdicts_after, AreWrittenAndCounted}
use Rattle.line_check.proofs.lines.check_pieces.Given as goal

abbrev pub invariant-reads : goal.invariant-reads
invariant-reads g l = (bytes : List ℕ) × Consumes (g.R.Read.remaining l.fn.reader) (g.R.Read.remaining l.reader) bytes
    × (l.held.items ≡ held_after [] bytes)
    × AreWrittenAndCounted no_lines (verdicts_after [] bytes) (g.W.Write.contents l.fn.writer) (g.W.Write.contents l.writer) l.tally
