pub mod Places
pub mod Sound
pub mod Complete
pub mod Limits
pub mod Rests
pub mod Lines
pub mod Texts
pub mod CommandLines
