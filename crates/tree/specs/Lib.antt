pub mod Forms
pub mod Machine
pub mod Tail
pub mod Writes
