pub mod Statuses
pub mod Parts
pub mod Words
