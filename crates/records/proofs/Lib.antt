pub mod Answering
pub mod Comparing
pub mod Decoding
pub mod Standing
