pub mod Number
pub mod Reading
pub mod HostRow
pub mod OwnCell
pub mod HostAnswer
pub mod Entries
pub mod Strengths
pub mod WorkedStrengths
