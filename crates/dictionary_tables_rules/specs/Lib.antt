pub mod Table
pub mod Laid
pub mod Tags
