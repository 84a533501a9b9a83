pub mod AgreeLaws
pub mod CallsLaws
pub mod Determined
