pub mod Assemblies
pub mod Cutting
pub mod Finding
pub mod Offering
pub mod Wording
