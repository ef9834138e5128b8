pub mod Announced
pub mod AnnouncedLaws
pub mod Framer
pub mod Stream
pub mod Examples
