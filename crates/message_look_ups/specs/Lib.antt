pub mod Opening
pub mod RowLaws
pub mod NamedLaws
pub mod OpeningLaws
pub mod LookUpLaws
