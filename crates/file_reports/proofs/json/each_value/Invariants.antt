use Rattle.std.proofs.Common.{◌≡◌, take, map}
use Rattle.serde_json.specs.View.{view}
use Rattle.file_reports.specs.{each_data}
use Rattle.file_reports.proofs.json.each_value.Given as goal

-- what is reported of the rules so far
abbrev pub invariant-loop-rule : goal.invariant-loop-rule
invariant-loop-rule l = map view l.list.items ≡ each_data l.tested (take l.rule-index l.rules)
