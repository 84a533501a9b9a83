pub mod ListLaws
pub mod ManyLaws
pub mod CallsLaws
pub mod Determined
pub mod ToldLaws
