pub mod Answering
pub mod Answers
pub mod BatchLines
pub mod BatchViews
pub mod AnswerLaws
pub mod ListAnswers
pub mod Needs
pub mod Stock
pub mod StockOrder
pub use Answering.{IsFoundOf, IsRowOf}
unfoldable pub use Answers.{answer}
pub use BatchViews.{measured_line}
pub use AnswerLaws.{BalancedFrom, IsBooked, balance_order, booked_order}
