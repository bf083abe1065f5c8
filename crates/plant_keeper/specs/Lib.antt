pub mod CheckRefusals
pub mod Keepers
pub mod AppliedOnce
pub mod Replies
pub mod Runs
pub mod Sendings
pub use CheckRefusals.{refusal_of_check, refusal_of_reply}
pub use Keepers.{Asks, Checks, Executes, IsSameDesk, States, shuts, writes_nothing}
pub use AppliedOnce.{accepted, but_receipts, is_known, is_same_reference, once, once_after, plain}
pub use Replies.{number_of, reply_by}
unfoldable pub use Replies.{reply}
pub use Runs.{fold, replies}
pub use Sendings.{BeginsWith, IsPersistent, IsResent, Outcome, Sending, after, answered, answered_of, state_after_sending, stopped_after, stopped_before, with_answer}
