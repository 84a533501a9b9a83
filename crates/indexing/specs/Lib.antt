pub mod Ends
pub mod Fields
pub mod Head
pub mod Inner
pub mod Marks
pub mod Lists
pub mod Index
