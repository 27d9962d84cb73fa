pub mod Answers
pub mod Newline
pub mod Refusal
pub mod Stretch
pub mod Utf8
