pub mod Item
pub mod Section
