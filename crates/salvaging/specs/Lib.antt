pub mod Fault
pub mod Inner
pub mod Opens
pub mod Ploc
pub mod Tables
pub mod Told
pub mod Wrote
