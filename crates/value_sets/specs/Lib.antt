pub mod Indexed
pub mod Laws
pub mod Matching
pub mod StemIndex
pub mod Stems
pub mod Values
