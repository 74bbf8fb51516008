pub mod Board
pub mod Bytes
pub mod Meaning
pub mod Place
pub mod Ring
pub mod Service
