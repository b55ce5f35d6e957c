pub mod Names
pub mod Lent
pub mod Laws
