pub mod TaskPerforms
pub mod ConditionPerforms
pub mod RequestOfInput
mod ShortTexts
