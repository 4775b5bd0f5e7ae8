pub mod Seen
pub mod Wished
pub mod Locally
pub mod Framing
pub mod Heard
pub mod Beginning
pub mod RaiseSteps
pub mod Agreeing
pub mod Opening
pub mod Starting
pub mod Owning
pub mod Currency
pub mod ToAll
pub mod Listing
pub mod Resetting
pub mod Handovers
mod Lengths
pub mod Transfers
mod Asked
pub mod RoundsMore
mod Settings
pub mod Nearby
mod Differing
