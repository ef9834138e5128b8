pub mod Fitting
pub mod MessageTags
pub mod BodySteps
pub mod Unfit
