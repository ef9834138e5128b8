pub mod EncodedClean
pub mod EncodedAnswer
pub mod EncodedExamples
pub mod EncodedStandardLaws
pub mod EncodedMapsLaws
