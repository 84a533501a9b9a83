pub mod Whole
pub mod Chunks
