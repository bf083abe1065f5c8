-- The numbers of the rules.
use Rattle.std.specs.Prelude.{ℕ}
use Rattle.plant_check_rules.specs.declared.rule.Rule.{Rule}
use Rattle.plant_check_rules.specs.declared.rule.Rule.TheVariants as rule

abbrev pub rule_number : Rule → ℕ
rule_number rule.Tables = 1
rule_number rule.Values = 2
rule_number rule.Classes = 3
rule_number rule.Recipes = 4
rule_number rule.Orders = 5
rule_number rule.Batches = 6
rule_number rule.Stocks = 7
rule_number rule.Lots = 8
rule_number rule.Movements = 9
rule_number rule.Events = 10
rule_number rule.Numbers = 11
rule_number rule.Descent = 12
rule_number rule.Receipts = 13
rule_number rule.Recalls = 14
