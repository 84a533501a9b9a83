-- Laws of the code of salvage.
pub mod CallsLaws
pub mod CopyingLaws
pub mod CountingLaws
pub mod FatesLaws
pub mod InnerLaws
pub mod LinesLaws
pub mod OpensLaws
pub mod PlocLaws
pub mod SoundLaws
pub mod TableLaws
