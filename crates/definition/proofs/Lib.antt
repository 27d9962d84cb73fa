pub mod Worked
pub mod Recorded
pub mod Asked
pub mod Pinned
pub mod Kept
pub mod Values
