pub mod Elasticity
pub mod Sag
pub mod SagCheck
pub mod Demand
pub mod HostSag
pub mod WorkedSags
pub mod EdgeSags
