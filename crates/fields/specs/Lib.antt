pub mod Fields
pub mod Location
pub mod State
pub mod Entry
