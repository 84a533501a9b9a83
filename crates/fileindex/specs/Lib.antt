pub mod Parts
pub mod File
