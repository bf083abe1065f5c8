pub mod Endings
pub mod Report
pub mod Verdicts
pub mod QuestionWords
pub mod CommandWords
pub use Report.{AppendsFront, AreWrittenAndCounted, EndsEarly, end_text, line_text, no_lines, report, some_bad, tally_after, tally_with, texts, verdicts, verdicts_after}
pub use Verdicts.{verdict_where}
unfoldable pub use Verdicts.{verdict_of}
