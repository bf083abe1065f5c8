use Rattle.file_reports.proofs.SentencesConcatenate.{each_row}
use Rattle.file_reports.proofs.report.write_each_rule.Goals as goal

pub loop-rule-preserved : goal.loop-rule-preserved
loop-rule-preserved g c = each_row c.args.tested.now c.args.rules.now c.loop-rule.rule-index _ _ _ _ c.loop-rule-test.true c.loop-rule.invariant c.in_ok-write_rule.ensures
