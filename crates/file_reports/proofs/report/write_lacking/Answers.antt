use Rattle.file_reports.specs.{bound_text, rule_line}
use Rattle.plant_check_rules.specs.declared.rule.Rule.TheVariants as rule
use Rattle.plant_text.specs.{with_lf}
use Rattle.file_reports.proofs.SentencesConcatenate.{reported_after}
use Rattle.file_reports.proofs.report.write_lacking.Goals as goal

pub returns : goal.returns
returns g c = reported_after c.write_bound.result _ _ _ (with_lf (rule_line rule.Tables)) (bound_text c.args.binder) c.in_ok-write_shown.ensures c.write_bound.ensures
