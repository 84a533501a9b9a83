pub mod Pieces
pub mod Boxes
pub mod Entries
