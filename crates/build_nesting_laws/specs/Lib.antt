pub mod Formed
pub mod Nesting
pub mod Entries
