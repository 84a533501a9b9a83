pub mod SizeLaws
pub mod TableLaws
pub mod Determined
