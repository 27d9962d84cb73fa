pub mod Answers
pub mod Called
pub mod Compared
pub mod Numbers
pub mod Rubbish
pub mod Stand
