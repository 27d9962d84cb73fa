pub mod Items
pub mod Laws
pub mod Lines
pub mod Whole
