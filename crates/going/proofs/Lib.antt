pub mod Determined
pub mod SourceLaws
pub mod TextLaws
