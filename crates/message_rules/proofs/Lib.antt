pub mod NewLaws
pub mod FormedLaws
pub mod LookUpFinds
pub mod LookUpMeaning
pub mod LookUpLimits
pub mod Drafts
pub mod DraftLaws
