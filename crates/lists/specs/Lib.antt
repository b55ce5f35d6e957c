pub mod Additions
pub mod Distinct
pub mod Equality
pub mod Quantifiers
pub mod Sorting
