pub mod Meanings
pub mod Scopes
pub mod Vocabulary
pub mod Terms
pub mod Literals
pub mod Laws
