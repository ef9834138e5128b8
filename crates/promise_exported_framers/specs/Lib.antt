pub mod ToldLength
pub mod HunterRule
pub mod PortedRule
pub mod PortedAnswers
