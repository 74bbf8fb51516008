pub mod Numbers
pub mod Numerals
pub mod Reading
