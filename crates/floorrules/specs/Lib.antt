pub mod Loads
pub mod BeamRow
pub mod FloorBeam
pub mod Demand
pub mod HostBeam
pub mod WorkedBeams
pub mod EdgeBeams
