pub mod Passes
pub mod Scan
pub mod Strings
pub mod Table
pub mod Words
