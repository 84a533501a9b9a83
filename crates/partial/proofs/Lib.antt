pub mod Computing
pub mod Demands
pub mod Determined
pub mod Examples
pub mod Meaning
pub mod Reading
