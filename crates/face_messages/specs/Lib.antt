pub mod Lent
pub mod BuiltLaws
pub mod LentLaws
pub mod TakeLaws
