pub mod AnswersHaveNoFloats
mod PaddedNumbers
