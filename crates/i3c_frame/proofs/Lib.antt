pub mod TapLaws
pub mod TextLaws
pub mod PartLaws
pub mod TraceLaws
pub mod PrintLaws
pub mod FirstLaws
pub mod PushLaws
