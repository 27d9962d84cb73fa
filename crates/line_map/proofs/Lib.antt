pub mod Ends
pub mod Filling
pub mod Rising
pub mod Quiets
