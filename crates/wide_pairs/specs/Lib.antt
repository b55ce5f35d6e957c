pub mod Wide
pub mod Lines
pub mod Laws
