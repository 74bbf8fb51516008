pub mod Dividing
pub mod Fitting
pub mod Placing
pub mod Repeating
pub mod Sounding
