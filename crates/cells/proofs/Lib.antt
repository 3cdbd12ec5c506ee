pub mod LowestLaws
pub mod FillLaws
pub mod RowLaws
pub mod FloatLaws
pub mod ResultLaws
pub mod HostBytesMeaning
pub mod GreatestLaws
