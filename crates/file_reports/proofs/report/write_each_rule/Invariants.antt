use Rattle.std.proofs.Common.{take}
use Rattle.std.specs.Io.KnownBytes.{Appends}
use Rattle.file_reports.specs.{each_text}
use Rattle.file_reports.proofs.report.write_each_rule.Given as goal

-- the rules so far are written
abbrev pub invariant-loop-rule : goal.invariant-loop-rule
invariant-loop-rule g l = Appends (g.W.Write.contents l.fn.writer) (g.W.Write.contents l.writer) (each_text l.tested (take l.rule-index l.rules))
