pub mod Objects
pub mod States
pub mod Meanings
pub mod Reading
pub mod Grammar
pub mod Documents
pub mod Steps
pub mod Causes
