pub mod MaskLaws
pub mod ColumnLaws
pub mod KeptColumns
pub mod Reading
pub mod Uncut
pub mod TurnLaws
