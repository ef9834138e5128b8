pub mod KnownLaws
pub mod TurnLaws
