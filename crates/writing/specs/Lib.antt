pub mod Begin
pub mod Append
