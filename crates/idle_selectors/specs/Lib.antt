pub mod Idle
pub mod Texts
pub mod Noting
pub mod Laws
