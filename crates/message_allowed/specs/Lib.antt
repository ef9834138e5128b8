pub mod Distinct
pub mod DistinctLaws
pub mod LooseLaws
pub mod RowLaws
pub mod Branch
pub mod BranchLaws
