pub mod Written
pub mod Plain
pub mod ReadPlaces
pub mod ReadSound
