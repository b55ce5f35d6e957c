mod Words
mod Following
pub mod Contents
mod Order
pub mod Few
mod Steps
