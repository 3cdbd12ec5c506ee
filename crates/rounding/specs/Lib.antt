pub mod Range
pub mod Rounding
pub mod Fraction
pub mod Least
pub mod Greatest
pub mod Root
pub mod Utilisation
