pub mod Ahead
pub mod Bodies
pub mod Cases
pub mod Counts
pub mod Whole
pub mod Within
