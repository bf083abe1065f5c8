use Rattle.std.proofs.Common.{◌≡◌, drop, find, not}
use Rattle.plant_tables.specs.{rows_listed}
use Rattle.plant_check_rules.specs.{obeys}
use Rattle.plant_check.proofs.finding.first_broken_among.Given as goal

-- none of the rules so far is broken: the first is one of those that are left
abbrev pub invariant-loop-rule : goal.invariant-loop-rule
invariant-loop-rule l = find (λ r. not (obeys r (rows_listed l.rows))) (drop l.rule-index l.rules) ≡ find (λ r. not (obeys r (rows_listed l.rows))) l.rules
