pub mod Directory
pub mod LayingLaws
