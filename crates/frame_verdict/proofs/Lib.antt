pub mod Loops
pub mod Places
pub mod BodyStages
pub mod HeadStages
