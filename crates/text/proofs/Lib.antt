pub mod Cases
pub mod Checking
pub mod Newlines
pub mod Places
pub mod Refusals
pub mod Stretches
pub mod Utf8s
pub mod Ascii
