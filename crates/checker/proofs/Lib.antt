pub mod Marks
pub mod Works
pub mod Outcomes
pub mod Within
