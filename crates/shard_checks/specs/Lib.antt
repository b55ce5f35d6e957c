pub mod Cover
pub mod Laws
pub mod Lines
pub mod Reached
pub mod Sets
pub mod Ways
pub mod Written
pub mod WayLines
