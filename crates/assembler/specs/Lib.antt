pub mod Assembly
pub mod Builds
pub mod Cells
pub mod Handed
pub mod Marks
pub mod Progress
pub mod Sources
pub mod Survey
