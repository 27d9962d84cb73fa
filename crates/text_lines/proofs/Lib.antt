pub mod Lining
pub mod Quickly
pub mod Showing
