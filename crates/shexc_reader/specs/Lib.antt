pub mod Symbols
pub mod Trees
pub mod States
pub mod Grammar
pub mod Reading
pub mod Documents
pub mod Refusals
pub mod Laws
