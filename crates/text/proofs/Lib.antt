pub mod TextLaws
pub mod DecimalLaws
