pub mod TableLaws
pub mod Examples
pub mod RowsLayoutLaws
pub mod TabledLaws
pub mod MeasuresLaws
