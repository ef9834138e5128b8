pub mod GroupSteps
pub mod GroupReading
pub mod GroupBytes
pub mod GroupTakes
pub mod GroupOpen
pub mod GroupExact
