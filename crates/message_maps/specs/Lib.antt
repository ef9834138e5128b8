pub mod Map
pub mod MoveLaws
pub mod Rows
pub mod RowsLaws
pub mod SpliceLaws
pub mod WrittenLaws
