pub mod Lookup
pub mod Quiet
