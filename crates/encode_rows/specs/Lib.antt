pub mod Writing
pub mod WritingLaws
pub mod MessageLaws
