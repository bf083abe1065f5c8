pub mod HeldLines
pub mod Checks
pub mod CrashStates
pub mod Lines
pub mod Session
pub mod Turns
pub mod Writes
pub use HeldLines.{entries_after, held_with, room}
unfoldable pub use HeldLines.{ended_after, held_after}
pub use Checks.{CheckAnswersMatchReplies, ChecksAs, check_when_shut, refusal_answered}
pub use CrashStates.{CrashStatesAfterSome, CrashStatesAmong, CrashStatesAtFault, CrashStatesAtStop, CrashStatesOfRun, RepresentsDurably, RepresentsEither}
pub use Lines.{IsProblemOf, asked_by, question_line, checked_by, kind_around, kind_at, line_of, longest_line, object_says, or_no_json, value_says}
unfoldable pub use Lines.{line_says, text_checked, value_in}
pub use Session.{AreAnswered, CrashStatesOfFault, CrashStatesOfStoreFault, Ends, EndsWithin, Entry, RunStopped, StoppedAmong, StopsAt, after, all_lines, bad, check, command, ended_from, ended_lines, entries, entry_text, entry_where, fold, is_refused, is_unknown, nothing, part_from, question, some_refused, texts}
unfoldable pub use Session.{entry_of}
pub use Turns.{AnswerWritten, BadWritten, FaultWritten, LastEnds, TurnEnds, end_of}
pub use Writes.{AppendsPrefix, with_lf}
pub use declared.read.Line.{Line}
pub use declared.run.RunEnd.{RunEnd}
pub use declared.turns.TurnError.{TurnError}
