pub mod Wishes
pub mod Offers
pub mod Wire
