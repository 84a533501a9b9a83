pub mod ServingLaws
pub mod MarkingLaws
pub mod HadLaws
pub mod CallsLaws
pub mod Determined
