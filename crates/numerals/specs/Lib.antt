pub mod Numbers
pub mod Stored
