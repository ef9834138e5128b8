pub mod GroupLaws
pub mod ReadingLaws
pub mod Alike
pub mod Meaning
pub mod FourLevels
