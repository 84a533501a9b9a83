pub mod Answer
pub mod Bodies
pub mod Faults
pub mod Framing
pub mod Kinds
pub mod Walk
