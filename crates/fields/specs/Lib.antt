pub mod Fields
pub mod Putting
pub mod Taking
pub mod Theorems
