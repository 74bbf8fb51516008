pub mod Verdicts
pub mod Answers
pub mod Rows
pub mod Examples
