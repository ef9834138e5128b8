pub mod TagLaws
pub mod ReadingLaws
pub mod HeadedLaws
pub mod ThroughLaws
pub mod Examples
