pub mod AnswersWritten
pub mod Faults
pub mod ImportOutcomes
pub mod TaskOutput
pub mod Reports
pub mod Runs
pub mod Tasks
pub mod Texts
pub use Faults.{IsPrintFault, adopt_fault, status_of, summary_of}
pub use ImportOutcomes.{IsGivenOf}
pub use TaskOutput.{Exits, IsGoodLine, IsReady, Lines, Printed, Unprinted, after_closing}
pub use Reports.{LineStops}
pub use Runs.{AdoptedIfHonest, WasHonest, WasRefused}
pub use Tasks.{TaskGives}
pub use Texts.{good_text, ready_text}
pub use declared.fault.ProgramFault.{ProgramFault}
