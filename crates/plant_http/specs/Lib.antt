pub mod Answers
pub mod Serving
pub use Answers.{Asked, Checked, Executed, Out, answer_out, check_out, dated, escaped, fault_out, health_out, is_met, is_silent, is_silent_task, rendered, reply_out, seq_out, task_out, task_shut}
unfoldable pub use Answers.{health_text, policy_bytes}
pub use Serving.{AnswersBy, AnswersTaskShut, DoneUnder, DoneWhenShut, FailsAt, OutUnder, OutWhenShut, Performs, PerformsTask, Serves, ServesShut, TaskDoneWhenShut, TaskOutWhenShut, TellsPosition, TellsSeq, end_of, entry_of, entry_of_task, may_fail, position_in, seq_in_answer}
pub use declared.serve.ServeFault.{ServeFault}
pub use declared.serve.Served.{Served}
