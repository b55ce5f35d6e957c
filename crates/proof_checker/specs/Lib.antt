pub mod Standings
pub mod Current
pub mod Checks
pub mod Stated
pub mod Faults
pub mod Messages
