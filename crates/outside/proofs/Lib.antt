pub mod ChunkLaws
pub mod Determined
pub mod ItemLaws
pub mod WholeLaws
