pub mod Frame
pub mod Readers
pub mod Verdict
pub mod Exact
pub mod Literals
pub mod Texts
pub mod Lengths
pub mod Examples
