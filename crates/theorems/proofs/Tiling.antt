pub mod Leaves
pub mod Readers
pub mod Steady
pub mod Tiles
