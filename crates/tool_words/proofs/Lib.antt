pub mod Handed
pub mod Once
pub mod Exactly
pub mod Limits
pub mod ShardWords
