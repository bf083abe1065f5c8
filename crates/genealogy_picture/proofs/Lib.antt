pub mod AbsentNodes
pub mod MembersCounted
pub mod DrawnInput
pub mod RefusalKinds
pub mod LineMeaning
pub mod Causes
