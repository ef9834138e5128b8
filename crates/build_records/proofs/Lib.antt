pub mod WordLaws
pub mod RecordLaws
pub mod Turns
