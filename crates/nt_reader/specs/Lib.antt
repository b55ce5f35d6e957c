pub mod Grammar
pub mod Reading
pub mod Endings
pub mod Steps
pub mod Laws
