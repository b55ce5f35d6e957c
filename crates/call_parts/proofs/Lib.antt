mod Holding
pub mod Calling
