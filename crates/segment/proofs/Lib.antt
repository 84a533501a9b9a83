pub mod ChunkLaws
pub mod DataLaws
pub mod Determined
pub mod MetLaws
pub mod PlacedLaws
pub mod TopsLaws
pub mod WholeLaws
