pub mod Numbers
pub mod Mentions
pub mod Blocks
pub mod Explanations
pub mod Finding
pub mod Laws
