pub mod Bodies
pub mod Laws
pub mod Readers
pub mod Whole
