pub mod Messages
pub mod Extents
pub mod Demanded
pub mod Members
pub mod Found
pub mod Laws
