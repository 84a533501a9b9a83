pub mod AdmissionLaws
pub mod BesideLaws
pub mod CountLaws
pub mod Determined
pub mod LengthLaws
pub mod OutsideLaws
pub mod TextLaws
pub mod WidthLaws
