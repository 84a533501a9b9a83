pub mod CountLaws
pub mod Determined
pub mod LineLaws
pub mod OutlineLaws
pub mod RangesLaws
pub mod ToldLaws
