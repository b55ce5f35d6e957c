pub mod Apart
pub mod Asking
pub mod Comparing
pub mod Ordered
pub mod Stopping
