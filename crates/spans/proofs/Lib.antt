pub mod SpanLaws
pub mod ChunkLaws
pub mod OrderLaws
pub mod Determined
pub mod FileLaws
