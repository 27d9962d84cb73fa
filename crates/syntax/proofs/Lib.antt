pub mod Items
pub mod Sections
pub mod Hashes
