pub mod Says
pub mod Calls
