pub mod Texts
pub mod Frames
pub mod Reading
pub mod Sound
pub mod Groups
pub mod GroupOwn
pub mod GroupExamples
