pub mod Keeping
pub mod Showing
pub mod Stepping
