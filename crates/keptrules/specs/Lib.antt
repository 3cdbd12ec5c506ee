pub mod Kept
pub mod Calls
pub mod Afresh
pub mod WorkedCalls
