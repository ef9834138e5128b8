pub mod HunterLaws
pub mod HunterExist
pub mod Demand3Exported
pub mod PortedLaws
pub mod PortedKept
pub mod PortedExist
pub mod FramingExported
