pub mod DecimalLaws
pub mod DigitLaws
pub mod HexLaws
pub mod HexTexts
