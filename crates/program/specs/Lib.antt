pub mod Faults
pub mod Names
pub mod Programs
pub mod Records
