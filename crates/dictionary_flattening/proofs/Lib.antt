pub mod LeapsLaws
pub mod Arms
pub mod TagArms
