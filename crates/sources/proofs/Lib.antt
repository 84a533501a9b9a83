pub mod NumberLaws
pub mod ListLaws
pub mod HeldLaws
pub mod Determined
