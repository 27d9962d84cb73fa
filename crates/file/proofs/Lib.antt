pub mod Grounds
pub mod LentItem
pub mod Advancing
pub mod Behind
pub mod Hashing
pub mod Filing
