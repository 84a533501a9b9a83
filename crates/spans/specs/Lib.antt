pub mod Spans
pub mod Chunks
pub mod Files
pub mod KeptOf
