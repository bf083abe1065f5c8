pub mod PartsInOrder
pub mod QuestionsAreMade
pub mod QuestionsAreReported
pub mod MembersByInduction
pub mod FieldsAreTyped
pub mod ChecksAreTyped
pub mod StepsAreTyped
