pub mod Chains
pub mod Entries
pub mod Lists
pub mod Uses
pub mod Within
