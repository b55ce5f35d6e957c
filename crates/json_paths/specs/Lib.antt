pub mod Items
pub mod Members
pub mod Paths
pub mod Texts
