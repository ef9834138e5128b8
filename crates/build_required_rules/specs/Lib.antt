pub mod Required
pub mod Tree
pub mod Checking
pub mod RequiredLaws
pub mod Examples
