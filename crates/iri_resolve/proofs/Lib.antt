pub mod Places
pub mod Cuts
pub mod Reading
pub mod Rules
pub mod Unique
pub mod Decomposed
pub mod Schemes
pub mod ResolvedLines
