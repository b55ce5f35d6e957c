pub mod Same
pub mod Numbering
pub mod Told
pub mod Failing
pub mod Misfitting
pub mod Blocked
pub mod Walked
pub mod Lawful
