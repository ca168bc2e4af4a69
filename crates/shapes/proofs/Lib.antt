pub mod Addresses
pub mod DepthSteps
pub mod DepthTrees
pub mod Letters
pub mod Mirrors
pub mod Reaching
pub mod Spelling
pub mod Verdicts
