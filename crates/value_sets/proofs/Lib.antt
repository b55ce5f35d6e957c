pub mod Apart
pub mod Between
pub mod Deciding
pub mod Indexing
pub mod Prefixes
