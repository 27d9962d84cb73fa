pub mod Standing
pub mod Getting
pub mod Climbing
pub mod Finishing
