pub mod Decodes
pub mod Number
pub mod Pastes
