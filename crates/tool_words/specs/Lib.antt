pub mod Commands
pub mod Requests
pub mod Asked
pub mod Lent
pub mod Laws
