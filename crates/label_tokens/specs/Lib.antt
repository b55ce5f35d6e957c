pub mod Roles
pub mod Spots
pub mod Scenes
pub mod Views
pub mod Places
