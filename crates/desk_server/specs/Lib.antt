pub mod Serving
pub mod Traffic
pub mod Exchanges
pub mod Noting
pub mod Connection
pub mod Queue
pub mod Reply
pub mod Receiving
pub mod Deadline
pub use Serving.{Asked, EndsServing, HasServed, IsSameStore, ServesAtMost, after_tasks}
pub use Queue.{marked, waits_for}
pub use Exchanges.{AreExchangedOn, Exchange, HasMade, IsExchangedOn, IsJournal, Leads, ServesOver, text_of}
pub use declared.fault.ServingFault.{ServingFault}
