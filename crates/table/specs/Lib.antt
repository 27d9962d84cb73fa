pub mod Row
pub mod Fills
