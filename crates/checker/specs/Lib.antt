pub mod Starting
pub mod Work
pub mod Verdict
pub mod Progress
