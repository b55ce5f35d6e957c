pub mod Digits
pub mod Decimal
pub mod DateTime
pub mod Datatype
pub mod Grammar
pub mod Laws
