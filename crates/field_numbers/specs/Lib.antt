pub mod Fraction
