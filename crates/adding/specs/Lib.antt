pub mod Counts
pub mod Texts
pub mod Layout
pub mod Admission
pub mod Asks
