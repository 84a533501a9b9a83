pub mod Serving
pub mod Marking
pub mod Calls
