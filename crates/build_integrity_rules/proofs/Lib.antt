pub mod IntegrityLaws
pub mod VerifiedLaws
