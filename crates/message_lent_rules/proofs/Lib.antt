pub mod MeaningLaws
pub mod MeantLaws
pub mod FormedLaws
pub mod Exact
pub mod StandingLaws
