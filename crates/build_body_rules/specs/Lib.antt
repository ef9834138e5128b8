pub mod Body
pub mod Kinds
pub mod KindLaws
pub mod RunWords
pub mod Seen
pub mod RunTree
