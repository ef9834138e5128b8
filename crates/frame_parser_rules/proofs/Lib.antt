pub mod FramerLaws
pub mod MessageLaws
pub mod FramingLaws
pub mod Framing
pub mod Sample
