pub mod Answers
pub mod Place
