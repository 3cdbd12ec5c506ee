pub mod BitLaws
pub mod CellLaws
pub mod ParseLaws
pub mod RoundTrip
pub mod Sizes
pub mod PackMeaning
