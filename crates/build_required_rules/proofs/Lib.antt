pub mod TreeLaws
pub mod Growing
pub mod Meaning
