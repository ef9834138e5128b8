pub mod LookUps
pub mod Turns
