pub mod Apart
pub mod Covering
pub mod Finding
pub mod Gathered
pub mod Leading
pub mod Nodes
pub mod Reading
pub mod Splitting
