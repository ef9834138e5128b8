pub mod TakenOver
pub mod Small
pub mod FewRecords
