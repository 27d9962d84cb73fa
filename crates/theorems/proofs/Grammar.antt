pub mod Clean
pub mod Exact
pub mod Groups
pub mod Items
pub mod Lines
pub mod Plain
pub mod Shorter
pub mod Words
