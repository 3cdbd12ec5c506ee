pub mod Row
pub mod Refusal
pub mod Lowest
pub mod HostBytes
pub mod Greatest
