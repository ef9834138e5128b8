pub mod Layout
pub mod Tree
pub mod Table
pub mod Measures
pub mod Tabled
pub mod RowsLayout
