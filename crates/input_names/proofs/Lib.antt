pub mod BaseLines
