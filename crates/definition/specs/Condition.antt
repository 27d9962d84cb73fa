pub mod Value
pub mod Literal
pub mod Operators
pub mod Expression
pub mod Meaning
pub mod Reader
pub mod Valuing
