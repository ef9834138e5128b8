pub mod MarkLaws
pub mod StateLaws
pub mod CallLaws
pub mod Exports
