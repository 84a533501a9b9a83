pub mod Putting
pub mod Calls
