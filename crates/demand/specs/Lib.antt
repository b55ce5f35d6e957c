pub mod Closing
pub mod Demand
pub mod Links
pub mod Messages
pub mod Needed
pub mod Orders
