pub mod Next
pub mod Again
