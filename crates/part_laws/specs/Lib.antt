pub mod Growth
pub mod Laws
pub mod Numbers
pub mod Parts
pub mod Texts
