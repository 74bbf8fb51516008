pub mod Bench
pub mod Input
pub mod Output
pub mod Trial
