pub mod TransferLaws
pub mod WireLaws
