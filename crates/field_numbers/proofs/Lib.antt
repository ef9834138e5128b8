pub mod Powers
pub mod LastDigits
pub mod Fraction
pub mod Turns
