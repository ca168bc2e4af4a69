pub mod Examples
pub mod Formulas
pub mod Readings
pub mod Rounds
pub mod Solutions
pub mod Tables
pub mod Theorems
