pub mod Integrity
pub mod Examples
