pub mod Coins
