pub mod Answered
pub mod DataLines
pub mod Once
