pub mod Texts
pub mod Source
