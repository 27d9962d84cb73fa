pub mod Ranges
pub mod Bitwise
pub mod Shifts
pub mod Matches
pub mod Sides
pub mod Telling
