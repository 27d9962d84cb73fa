pub mod Begins
pub mod Peeking
pub mod Peeks
pub mod Periods
pub mod Settling
pub mod Steps
