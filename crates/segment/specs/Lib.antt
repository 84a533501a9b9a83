pub mod Tops
pub mod Data
pub mod Placed
pub mod Chunk
