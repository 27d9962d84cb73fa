pub mod Continuation
pub mod MayBe
pub mod Skips
