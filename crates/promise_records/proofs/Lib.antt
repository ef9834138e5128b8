pub mod SmallRead
pub mod Uncut
pub mod SmallLaws
