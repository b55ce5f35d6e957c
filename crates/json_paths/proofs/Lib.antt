mod Copies
pub mod Depths
