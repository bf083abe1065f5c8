pub mod AppliedOnce
pub mod SameDesk
pub mod RunExtends
pub mod ChecksMatchReplies
pub mod RefusedOrRepeated
