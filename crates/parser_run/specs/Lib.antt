pub mod Reads
pub mod Faults
pub mod Expects
pub mod Parses
