pub mod Calls
pub mod Places
pub mod Threads
pub mod Within
