pub mod Things
pub mod Edges
