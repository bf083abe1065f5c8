pub mod Rules
pub mod Damaged
pub mod SublotFlows
pub mod Lots
pub mod Numbered
pub use Rules.{are_acyclic, are_fitting, are_kept_edges, are_same_edges, are_whole, broken_rows, movements_in, obeys, recalls_read, tested_rules}
unfoldable pub use Rules.{first_broken, first_broken_of}
pub use Damaged.{IsDamaged}
pub use SublotFlows.{are_stocks, entered_by, entries, exits, left_by, total_booked}
unfoldable pub use SublotFlows.{has_right_stock}
pub use Lots.{are_from_zero, are_lots, have_same_kind_code, is_born, is_division_code, is_lot_among, is_of_one_birth, is_one_birth, is_one_division, sublots_among}
unfoldable pub use Lots.{is_right_lot, is_right_sublot}
pub use Numbered.{rule_number}
pub use declared.rule.Rule.{Rule}
