pub mod Text
pub mod Reference
pub mod Dots
pub mod Decomposition
pub mod Removal
pub mod Resolution
