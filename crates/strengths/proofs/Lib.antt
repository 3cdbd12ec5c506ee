pub mod StrengthsLaws
