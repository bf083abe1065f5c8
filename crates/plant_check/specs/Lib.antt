pub mod Recipes
pub mod Stocks
pub mod Lots
pub mod Marks
pub mod Movements
pub mod Events
pub mod Numbers
pub mod Edges
pub mod Recalls
pub mod ValueRules
pub mod ColumnRules
pub mod StoredKeys
pub mod TableRules
pub mod Values
pub mod Findings
pub use Rattle.plant_requirements.specs.{all_tables, column_name, table_name, fault_text, found_text, wanted_text, Column, Found, RowKey, RowFault, Table, Wanted, ValueRule, fault_unless, first_reported, or_fault}
pub use Recipes.{line_fault, recipe_fault}
pub use Stocks.{stock_fault}
pub use Lots.{lot_fault, sublot_fault}
pub use Movements.{movement_fault, naming_fault}
pub use Events.{run_fault, run_found}
pub use Numbers.{fall_fault_in, given_fault, late_fault_in, line_fault_in, number_fault, number_fault_in}
pub use ValueRules.{allows_null, allows_text, obeys}
pub use TableRules.{rules_of}
pub use Values.{AreUnreadIfBad, bad_value, first_bad_value, first_unread, first_unread_of}
pub use Findings.{AreFindingsOf, IsFirstFound, IsFoundByRow, IsFoundWhereBroken, finding_of, first_rule, head, is_broken_by_row, row_fault, rule_text}
pub use declared.finding.Finding.{Finding}
pub use declared.finding.Tested.{Tested}
