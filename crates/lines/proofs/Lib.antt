pub mod OutputLaws
pub mod OutputMeaning
pub mod Example
