mod Fetched
pub mod Growth
