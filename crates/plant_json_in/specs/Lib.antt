pub mod Fields
pub mod ValueLaws
pub mod Members
pub mod FormatErrors
pub mod Tables
pub mod Words
pub mod CommandTables
pub mod QuestionTables
pub mod QuestionValues
pub mod Questions
pub mod Checks
pub mod Commands
pub mod Listing
pub mod Lists
pub mod Plain
pub use Fields.{by_rule, chosen, exactly, field_of, field_of_part, field_of_text, fields_of, first_other, is_between, member_of, member_where, natural, none_other, other_where}
pub use ValueLaws.{May, Means, Values, field_in, fields_in, may_in}
pub use Members.{is_needed, name_of, rule_of}
pub use FormatErrors.{IsReported, Reports, format_error_is_reported, format_error_text, is_reported, object, or_malformed, shape_error_text, ◌>>=◌}
pub use Tables.{check_members, row_own, shared_members}
pub use CommandTables.{own_of}
pub use QuestionTables.{asked_kind, question_members}
pub use QuestionValues.{question_by}
pub use Questions.{node_in, question_in, question_of_parts, shape_in}
pub use Words.{batch_word, line_kind, order_state, recipe_state}
pub use CommandTables.{command_kind}
pub use declared.fields.Field.{Field}
pub use declared.format_errors.ReadFault.{ReadFault}
pub use declared.format_errors.FormatError.{FormatError}
pub use declared.format_errors.ShapeError.{ShapeError}
pub use declared.members.Member.{Member}
pub use declared.question_tables.Around.{Around}
pub use declared.question_tables.AskedKind.{AskedKind}
pub use declared.question_tables.ListKind.{ListKind}
pub use declared.question_tables.NodeKind.{NodeKind}
pub use declared.question_tables.QuestionKind.{QuestionKind}
pub use declared.question_tables.Topic.{Topic}
pub use declared.command_tables.CommandKind.{CommandKind}
pub use declared.words.RowKind.{RowKind}
pub use Checks.{check_in, check_of, checked_as, checked_in, command_among, command_in, has_reason}
pub use Commands.{body_of, command_by, command_of, envelope_with, kind_at}
pub use Lists.{item_by, item_of, items_at, items_from, items_where, line_of, line_row, numbered, order_of, part_of}
pub use declared.checks.ToCheck.{ToCheck}
