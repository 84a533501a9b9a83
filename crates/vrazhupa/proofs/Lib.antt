pub mod Determined
pub mod SayLaws
