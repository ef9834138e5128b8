pub mod StandardLaws
pub mod FieldReads
pub mod WritingLaws
pub mod Samples
pub mod Conforming
pub mod RefutedTags
pub mod RefutedWriting
