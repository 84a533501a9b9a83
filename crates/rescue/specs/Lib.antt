pub mod Kept
pub mod Copy
pub mod Lines
pub mod Table
pub mod Demands
pub mod Examples
