pub mod Plain
pub mod TreesPlain
pub mod Spelled
pub mod Stepped
