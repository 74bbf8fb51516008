pub mod Figures
pub mod Inverse
pub mod Spellings
