pub mod BytesLaws
pub mod Determined
pub mod LineLaws
pub mod ListLaws
