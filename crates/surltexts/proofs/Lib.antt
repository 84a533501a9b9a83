pub mod CallsLaws
pub mod Determined
pub mod FindLaws
pub mod PuttingLaws
