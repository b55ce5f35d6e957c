pub mod Formats
pub mod Documents
pub mod Laws
