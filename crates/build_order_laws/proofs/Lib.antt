pub mod TwiceInParts
pub mod TwiceMessage
