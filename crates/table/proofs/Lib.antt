pub mod Sets
pub mod Tables
pub mod Parts
pub mod Rows
pub mod Outcomes
