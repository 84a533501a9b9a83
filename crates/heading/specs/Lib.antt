pub mod Facts
pub mod Steps
