pub mod Hunt
pub mod Bytes
pub mod Calls
