pub mod Encoding
pub mod Examples
pub mod Encode
pub mod EncodeExamples
