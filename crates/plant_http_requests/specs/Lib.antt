pub mod RouteTable
pub mod Routes
pub mod HeadEnd
pub mod PieceReading
pub mod Fields
pub mod Origins
pub mod Validators
pub mod Framing
pub mod Heads
pub mod Senders
pub mod AnswerCounts
pub mod Steps
pub mod References
pub mod InTime
pub mod Tasks
pub mod Law
pub mod Progress
pub use Routes.{first_part, second_part, target_of}
unfoldable pub use Routes.{found_in}
pub use declared.routes.BodyFormat.{BodyFormat}
pub use declared.routes.Post.{Post}
pub use declared.routes.Target.{Target}
pub use HeadEnd.{blank_length, end_where, or_else}
unfoldable pub use HeadEnd.{end_of_head, head_length}
pub use PieceReading.{Agrees, FindsHead, GoesOn, SpentAll}
pub use Fields.{count_named, value_named}
pub use Origins.{is_further_host}
pub use Heads.{Parsed, field_lines}
pub use Steps.{fails, refusal_of, refused, refused_task, under}
pub use Senders.{field_of, is_of_other, may_be, of_sender, operator_of, sender_in, sender_of}
pub use References.{lacks_needed, lacks_reference, own_or, referred, with_given, with_reference}
pub use InTime.{ahead_or, in_time, moment_of, overrun}
pub use Tasks.{AsksFor, EndTask, HeadAsksFor, HeadTask, TaskOf, Reads, ReadsAs, ReadsSome, StepOf, body_task, body_says, command_task, command_of, fault_task_of, file_task, finish, is_of_body, most_reads, parsed_step}
pub use Progress.{HasCome, HasComeOfHead}
pub use declared.progress.RequestProgress.{RequestProgress}
pub use declared.task.ConditionalTask.{ConditionalTask}
pub use declared.task.HeadDecision.{HeadDecision}
pub use declared.task.RequestTask.{RequestTask}
pub use declared.task.Sender.{Sender}
pub use declared.figures.Figures.{Figures}
pub use declared.figures.Now.{Now}
pub use declared.figures.StatusCount.{StatusCount}
pub use declared.profile.Presentation.{Presentation}
pub use declared.profile.Profile.{Profile}
pub use declared.profile.Terms.{Terms}
pub use declared.reading.InputFault.{InputFault}
pub use declared.status.Allow.{Allow}
pub use declared.status.Status.{Status}
