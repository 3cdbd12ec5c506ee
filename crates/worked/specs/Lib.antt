pub mod Cases
pub mod Values
pub mod Table
