pub mod Plan
pub mod Copies
pub mod Span
pub mod Symbols
pub mod Deals
pub mod Totals
pub mod Laws
