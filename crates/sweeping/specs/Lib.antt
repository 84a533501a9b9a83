pub mod Classes
pub mod Ranges
pub mod Sweeps
pub mod Naming
