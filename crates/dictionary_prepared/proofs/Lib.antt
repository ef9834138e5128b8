pub mod MemoryLaws
pub mod Examples
