pub mod Texts
pub mod Terms
pub mod Graph
pub mod Schema
pub mod Map
pub mod Files
