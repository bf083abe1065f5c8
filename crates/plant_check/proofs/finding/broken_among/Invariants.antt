use Rattle.std.proofs.Common.{◌≡◌, ◌++◌, drop, filter, not}
use Rattle.plant_tables.specs.{rows_listed}
use Rattle.plant_check_rules.specs.{obeys}
use Rattle.plant_check.proofs.finding.broken_among.Given as goal

-- the broken ones so far, and then those of the rules that are left, are all of them
abbrev pub invariant-loop-rule : goal.invariant-loop-rule
invariant-loop-rule l =
    l.list.items ++ filter (λ r. not (obeys r (rows_listed l.rows))) (drop l.rule-index l.rules)
    ≡ filter (λ r. not (obeys r (rows_listed l.rows))) l.rules
