pub mod Bounds
pub mod Growing
pub mod Numbers
