pub mod Console
pub mod Fetch
pub mod Run
pub mod Safe
pub mod Start
pub mod Step
pub mod Steps
pub mod Turns
