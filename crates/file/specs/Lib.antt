pub mod Ground
pub mod Advance
