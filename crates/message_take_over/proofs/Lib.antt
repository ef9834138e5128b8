pub mod TakenLaws
pub mod BackLaws
pub mod MapBackLaws
pub mod KeepLaws
pub mod Theorem
