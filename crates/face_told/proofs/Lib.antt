pub mod ToldLaws
pub mod PartLaws
pub mod FoundLaws
pub mod UncutLaws
