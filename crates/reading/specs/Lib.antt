pub mod Promise
pub mod Parsed
