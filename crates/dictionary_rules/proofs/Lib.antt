pub mod PassingLaws
pub mod Prepared
pub mod Stands
pub mod Examples
