pub mod Named
pub mod Place
