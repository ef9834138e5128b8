pub mod EncodedMaps
pub mod EncodedHeader
pub mod EncodedStandard
