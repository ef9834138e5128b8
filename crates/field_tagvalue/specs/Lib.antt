pub mod Tagged
pub mod TaggedLaws
