pub mod BodyLaws
pub mod RunLaws
pub mod GroupReading
pub mod BodyReading
pub mod Meaning
pub mod SeenLaws
