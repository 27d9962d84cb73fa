pub mod Calls
pub mod Items
pub mod Readers
pub mod Runs
pub mod Tokens
