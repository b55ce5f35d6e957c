pub mod Commands
pub mod Requests
pub mod Checks
pub mod Asked
pub mod Drills
pub mod Lent
pub mod Laws
