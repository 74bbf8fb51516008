pub mod Laws
pub mod Twice
