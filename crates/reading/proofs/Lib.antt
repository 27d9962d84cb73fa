pub mod Codes
pub mod Promises
pub mod Parsing
pub mod Fitting
pub mod Outcomes
pub mod BodyOutcomes
