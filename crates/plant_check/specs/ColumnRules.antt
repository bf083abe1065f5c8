-- Rules of numbers.
use Rattle.plant_base.specs.{greatest_amount, greatest_moment, greatest_phase, greatest_priority, greatest_seq, greatest_sublot, greatest_version}
use Rattle.plant_recipe.specs.{greatest_attempt}
use Rattle.plant_requirements.specs.declared.value_rule.ValueRule.{ValueRule}
use Rattle.plant_requirements.specs.declared.value_rule.ValueRule.TheVariants as rule

abbrev pub version : ValueRule
version = rule.Number 1 greatest_version

abbrev pub amount : ValueRule
amount = rule.Number 1 greatest_amount

abbrev pub quantity : ValueRule
quantity = rule.Number 0 greatest_amount

abbrev pub priority : ValueRule
priority = rule.Number 1 greatest_priority

abbrev pub moment : ValueRule
moment = rule.Number 0 greatest_moment

abbrev pub moment_or_null : ValueRule
moment_or_null = rule.NumberOrNull 0 greatest_moment

abbrev pub seq : ValueRule
seq = rule.Number 0 greatest_seq

abbrev pub sublot : ValueRule
sublot = rule.Number 0 greatest_sublot

abbrev pub sublot_or_null : ValueRule
sublot_or_null = rule.NumberOrNull 0 greatest_sublot

abbrev pub attempt : ValueRule
attempt = rule.Number 1 greatest_attempt

abbrev pub next : ValueRule
next = rule.Number 1 greatest_phase

abbrev pub phase : ValueRule
phase = rule.Number 0 greatest_phase
