pub mod Replies
pub mod Numbering
pub mod Proofs
pub mod Laws
