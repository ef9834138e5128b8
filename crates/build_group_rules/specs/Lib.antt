pub mod Groups
pub mod Reading
pub mod Examples
