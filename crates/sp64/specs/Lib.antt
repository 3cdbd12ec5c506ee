pub mod Ranges
pub mod Tables
pub mod Strength
pub mod Slenderness
pub mod Joint
pub mod Capacity
pub mod Buckling
pub mod Combined
