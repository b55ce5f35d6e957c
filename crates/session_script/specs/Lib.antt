pub mod Grammar
pub mod Scripts
pub mod Reading
pub mod Steps
pub mod Messages
