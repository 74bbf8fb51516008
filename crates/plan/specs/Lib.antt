pub mod Kinds
pub mod Programs
pub mod Rules
pub mod Lawful
pub mod Walks
pub mod Causes
pub mod Rulings
