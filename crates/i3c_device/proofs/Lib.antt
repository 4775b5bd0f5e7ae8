pub mod KindLaws
pub mod EnabledLaws
pub mod Targets
pub mod SetLaws
pub mod MarkLaws
pub mod EachLaws
pub mod SeenLaws
pub mod Blindness
pub mod SeenWalks
pub mod KeyLaws
pub mod FindLaws
pub mod FirstLaws
pub mod ReadLaws
pub mod SameLaws
pub mod AnsweringLaws
pub mod LeastLaws
pub mod KeepLaws
mod LengthLaws
mod RegisterLaws
pub mod ByteFieldLaws
