pub mod WordLaws
pub mod WayLaws
pub mod TreeLaws
pub mod GrowLaws
pub mod ChainLaws
pub mod TurnLaws
