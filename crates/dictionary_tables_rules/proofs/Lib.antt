pub mod TableLaws
pub mod MarkLaws
pub mod PartLaws
pub mod Tabled
pub mod TagsLaws
pub mod Examples
