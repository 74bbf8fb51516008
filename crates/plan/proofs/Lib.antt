pub mod Listing
pub mod Calling
pub mod Bridge
pub mod Dividing
pub mod Rows
pub mod Walking
