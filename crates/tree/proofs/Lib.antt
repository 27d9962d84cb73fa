pub mod Patch
pub mod Runs
pub mod Writes
pub mod LentTail
pub mod Front
pub mod Places
