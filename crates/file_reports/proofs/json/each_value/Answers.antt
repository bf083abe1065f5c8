use Rattle.std.proofs.Common.{◌∙◌, ap, take_all}
use Rattle.file_reports.specs.{each_data}
use Rattle.file_reports.proofs.JsonListReported.{each_data_reported}
use Rattle.file_reports.proofs.json.each_value.Goals as goal

pub loop-rule-preserved : goal.loop-rule-preserved
loop-rule-preserved c = each_data_reported c.args.tested.now c.args.rules.now c.loop-rule.rule-index _ _ _ c.loop-rule-test.true c.loop-rule.invariant c.in_ok-add_found.ensures

pub returns : goal.returns
returns c = c.loop-rule.invariant ∙ ap (each_data c.args.tested.now) (take_all c.loop-rule.rule-index c.args.rules.now c.loop-rule-test.false)
