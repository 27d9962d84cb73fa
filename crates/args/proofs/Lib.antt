pub mod Places
pub mod Listing
