pub mod Beginning
pub mod Message
pub mod FourLevels
pub mod Examples
