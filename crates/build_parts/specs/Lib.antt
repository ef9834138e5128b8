pub mod Parts
pub mod PartLaws
pub mod Header
pub mod HeaderLaws
pub mod Trailer
pub mod TrailerLaws
