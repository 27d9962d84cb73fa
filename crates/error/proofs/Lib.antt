pub mod Adds
pub mod Resolving
pub mod Resolved
pub mod Starting
