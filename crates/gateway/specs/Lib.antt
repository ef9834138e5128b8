pub mod MessageLaws
pub mod FoundLaws
pub mod Sets
pub mod FillingLaws
pub mod TakingLaws
pub mod PreparingLaws
