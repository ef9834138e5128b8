pub mod Hanging
pub mod RowLaws
pub mod RaiseLaws
