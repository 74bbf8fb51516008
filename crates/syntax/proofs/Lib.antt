pub mod Runs
pub mod Cuts
mod Directives
pub mod Counting
pub mod Tokened
pub mod Listed
pub mod Bounds
mod Trials
