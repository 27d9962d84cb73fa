pub mod Digits
pub mod Literals
